-- Runs of inputs of a set c that follow one another and have the same row of the region, of n inputs, told from the sets s of scratch.
--
--   begins_at s n c j == a run begins at j: the input before it is not one of c, or has another row
--   latest f j       == the greatest member of f that is not above j; 0 where there is none
--   Runs s n c f     == f are inputs below n; each of c has the latest of them before it, with the same row
--   spread_at c f x j == j is one of c, and the run that it is in begins in x
use Rattle.std.specs.Prelude.{ℕ, zero, suc, ◌-◌, ◌<◌, ◌≡◌, Bool, true, false, not, ◌&&◌, ◌||◌, List, eqb}
use Rattle.bits.specs.Member.{has, within}
use Rattle.scratch.specs.Stored.{row_at}

unfoldable pub begins_at : List ℕ → ℕ → ℕ → ℕ → Bool
begins_at s n c j = eqb j 0 || (not (has c (j - 1)) || not (eqb (row_at s n (j - 1)) (row_at s n j)))

unfoldable pub latest : ℕ → ℕ → ℕ
latest f zero = zero
latest f (suc j) = elim (has f (suc j)) [ true ↦ suc j | false ↦ latest f j ]

pub record Runs (s : List ℕ) (n c f : ℕ) : Type 0 where
  pub below : within f n ≡ true
  pub begun : (j : ℕ) → j < n → has c j ≡ true → has f (latest f j) ≡ true
  pub same : (j : ℕ) → j < n → has c j ≡ true → row_at s n (latest f j) ≡ row_at s n j

unfoldable pub spread_at : ℕ → ℕ → ℕ → ℕ → Bool
spread_at c f x j = has c j && has x (latest f j)
