-- Lists made from a function on numbers.
--
--   tabulate_from k n f    == f k, f (k + 1), .. : n elements
--   tabulate n f          == f 0, f 1, .. : n elements
use Prim.Native.Nat.{ℕ, zero, suc}
use Rattle.std.specs.Prelude.{List, [], ◌∷◌}

module _ {A : Type 0} where
  unfoldable pub tabulate_from : ℕ → ℕ → (ℕ → A) → List A
  tabulate_from k zero f = []
  tabulate_from k (suc n) f = f k ∷ tabulate_from (suc k) n f

  unfoldable pub tabulate : ℕ → (ℕ → A) → List A
  unfolding tabulate_from
  tabulate n f = tabulate_from zero n f
