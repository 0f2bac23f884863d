-- Homes, told from the sets l of scratch, c being the inputs in nontrivial components.
--
--   safe_at l n c x d k       == each input below k that belongs to x is won with d
--   home_at l n c x among d   == d lies in a home: it belongs to among, and every input of x is won with it
use Rattle.std.specs.Prelude.{ℕ, Bool, not, ◌&&◌, ◌||◌, List}
use Rattle.finite.specs.Bounded.{all}
use Rattle.bits.specs.Member.{has}
use Rattle.scratch.specs.Stored.{won_at}

unfoldable pub safe_one : List ℕ → ℕ → ℕ → ℕ → ℕ → ℕ → Bool
safe_one l n c x d j = not (has x j) || won_at l n c j d

unfoldable pub safe_at : List ℕ → ℕ → ℕ → ℕ → ℕ → ℕ → Bool
safe_at l n c x d k = all k (safe_one l n c x d)

-- x are the inputs entered by a move out of a component, among the outputs in nontrivial components that accept it
unfoldable pub home_at : List ℕ → ℕ → ℕ → ℕ → ℕ → ℕ → Bool
home_at l n c x among d = has among d && safe_at l n c x d n
