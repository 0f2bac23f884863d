-- Components told by rows of sets. Where the rows are the closure's these are the graph's own components: proofs/Closed.antt.
--
--   Transitive rows n           == of the states below n, a row has what the rows of its states have
--   together rows s t           == s and t belong to each other's row
--   Pruned rows n s x           == x are states below n of row s, and all of these whose own row has s
--   nontrivial_at moves rows n s == a move of s stays among the states together with s
--   enters moves c n t          == a move from a state of c below n enters t
use Rattle.std.specs.Prelude.{ℕ, ◌<◌, ◌≡◌, Bool, true, ◌&&◌, List, get_or}
use Rattle.finite.specs.Bounded.{any}
use Rattle.bits.specs.Member.{has, pack, sets_meet}
use Rattle.sets.specs.Words.{capacity}
use Rattle.graphs.specs.Rows.{rel}

pub record Transitive (rows : List ℕ) (n : ℕ) : Type 0 where
  pub through : (s t u : ℕ) → s < n → t < n → u < n → rel rows s t ≡ true → rel rows t u ≡ true → rel rows s u ≡ true

unfoldable pub together : List ℕ → ℕ → ℕ → Bool
together rows s t = rel rows s t && rel rows t s

pub record Pruned (rows : List ℕ) (n s x : ℕ) : Type 0 where
  pub inside : (t : ℕ) → has x t ≡ true → (t < n) × (rel rows s t ≡ true)
  pub all : (t : ℕ) → t < n → rel rows s t ≡ true → rel rows t s ≡ true → has x t ≡ true

unfoldable pub nontrivial_at : List ℕ → List ℕ → ℕ → ℕ → Bool
nontrivial_at moves rows n s = sets_meet capacity (get_or moves s 0) (pack n (together rows s))

unfoldable pub enters : List ℕ → ℕ → ℕ → ℕ → Bool
enters moves c n t = any n (λ k. has c k && has (get_or moves k 0) t)
