-- Relations kept as rows of sets, so that what is worked out is worked out once.
--
--   rel rows s t      == t belongs to row s
--   rows_of n m f      == n rows, row s being the set of the t < m with f s t
use Rattle.std.specs.Prelude.{ℕ, Bool, List, get_or}
use Rattle.finite.specs.Tabulate.{tabulate}
use Rattle.bits.specs.Member.{has, pack}

unfoldable pub rel : List ℕ → ℕ → ℕ → Bool
rel rows s t = has (get_or rows s 0) t

unfoldable pub rows_of : ℕ → ℕ → (ℕ → ℕ → Bool) → List ℕ
rows_of n m f = tabulate n (λ s. pack m (f s))
