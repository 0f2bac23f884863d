-- Plays that never end, and what recurs in them.
--
--   Later p n              == p holds of some number from n on
--   Recurs p               == p holds again and again: from every number on of some number
--   Endless First Turn f   == f is a play that never ends: a first configuration, then one turn after the other
--   RecurringMeet q f      == if every input set of q recurs along f, then every output set does
use Rattle.std.specs.Prelude.{ℕ, ◌+◌, ◌≤◌, ◌≡◌, Bool, true}
use mathlib.Core.List.{Memᴰ}
use Rattle.arena.specs.Arena.{Requirement}
use Rattle.arena.specs.Play.{Configuration}

pub record Later (p : ℕ → Bool) (n : ℕ) : Type 0 where
  pub at : ℕ
  pub late : n ≤ at
  pub here : p at ≡ true

-- SPEC 3.7
abbrev pub Recurs : (ℕ → Bool) → Type 0
Recurs p = (n : ℕ) → Later p n

-- SPEC 3.7
pub record Endless (First : Configuration → Type 0) (Turn : Configuration → Configuration → Type 0) (f : ℕ → Configuration) : Type 0 where
  pub first : First (f 0)
  pub turn : (n : ℕ) → Turn (f n) (f (n + 1))

-- "if these old modes recur, these new modes recur" (SPEC 3.7)
pub record RecurringMeet (q : Requirement) (f : ℕ → Configuration) : Type 0 where
  pub guaranteed : ((s : ℕ → Bool) → Memᴰ s q.assumptions → Recurs (λ n. s (f n).input))
      → (s : ℕ → Bool) → Memᴰ s q.guarantees → Recurs (λ n. s (f n).output)
