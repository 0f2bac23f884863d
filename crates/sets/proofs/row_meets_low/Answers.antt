-- `row_meets_low` meets its contract.
use Prim.Native.Nat.{ℕ, ◌+◌, ◌*◌}
use mathlib.Core.Path.{◌≡◌, ◌∙◌, ap}
use mathlib.Core.Bool.{true}
use mathlib.Core.List.{List, [], ◌∷◌}
use lib.ListN.{get_or}
use Rattle.bits.specs.Member.{within, sets_meet}
use Rattle.sets.specs.Words.{value, bits_of, sets_in}
use Rattle.sets.proofs.Pair.{pair_meets_low}
use Rattle.sets.proofs.Rows.{rows_at}
use Rattle.sets.proofs.row_meets_low.Goals as goal

row-meets : (l : List ℕ) (s x y : ℕ) → within (value 64 (x ∷ y ∷ [])) 64 ≡ true
    → sets_meet 64 (get_or l (2 * s) 0) x ≡ sets_meet 128 (get_or (sets_in l) s 0) (value 64 (x ∷ y ∷ []))
row-meets l s x y e =
    pair_meets_low (get_or l (2 * s) 0) (get_or l (2 * s + 1) 0) x y e ∙ ap (λ (k : ℕ). sets_meet 128 k (value 64 (x ∷ y ∷ []))) (rows_at l s)

pub returns : goal.returns
unfolding bits_of
returns c = c.meets.ensures ∙ row-meets _ _ _ _ c.requires.1
