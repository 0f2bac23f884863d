-- A round of the search for shortest ways inside a set c, backward from a target. l is the set of the states reached before the round, left the set of
-- the states that have no move yet.
--
--   choices rows c left l s        == the moves of s inside c that land in l; none where s is not one of left
--   moves_into rows c left l s      == s has such a move
--   PassedOver rows near from r    == r is `from` without some states that have no move into near
use Rattle.std.specs.Prelude.{ℕ, ◌≡◌, Bool, true, false, not, List, eqb, get_or}
use Rattle.std.specs.Int.Bits.{bit_and}
use Rattle.bits.specs.Member.{has, sets_meet}
use Rattle.sets.specs.Words.{capacity}

unfoldable pub choices : List ℕ → ℕ → ℕ → ℕ → ℕ → ℕ
choices rows c left l s = elim (has left s) [ true ↦ bit_and (bit_and (get_or rows s 0) c) l | false ↦ 0 ]

unfoldable pub moves_into : List ℕ → ℕ → ℕ → ℕ → ℕ → Bool
moves_into rows c left l s = not (eqb (choices rows c left l s) 0)

pub record PassedOver (rows : List ℕ) (near from r : ℕ) : Type 0 where
  pub member : (t : ℕ) → has r t ≡ true → has from t ≡ true
  pub idle : (t : ℕ) → has from t ≡ true → has r t ≡ false → sets_meet capacity (get_or rows t 0) near ≡ false
