-- What is left in scratch.
--
--   cleared n s         == s with its first n words zero
use Rattle.std.specs.Prelude.{ℕ, List, ◌++◌, drop}
use Rattle.finite.specs.Tabulate.{tabulate}

-- "after an answer the first that many words are zero and the rest unchanged" (document 02, M-103) (SPEC 7.5)
unfoldable pub cleared : ℕ → List ℕ → List ℕ
cleared n s = tabulate n (λ k. 0) ++ drop n s
