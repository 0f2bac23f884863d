-- The counters of a tour, the sets that meet the component being a set q of their numbers.
--
--   Goals q m g         == q has a member, all are below m, and so is g
--   first_from m q g     == the first member of q from g on, going round below m
--   passed_counter m b a == the counter after a move towards goal a; b tells whether the move landed in it
--   aimed_at m q a h     == a is the first member from h on
use Rattle.std.specs.Prelude.{ℕ, ◌≤◌, ◌<◌, ◌≡◌, Bool, true, false, ◌≢◌, eqb}
use Rattle.finite.specs.Bounded.{least}
use Rattle.bits.specs.Member.{has, within}
use Rattle.table_counters.specs.Counters.{counter_capacity}
use Rattle.theory.specs.Tour.{around}

pub record Goals (q m g : ℕ) : Type 0 where
  pub some : q ≢ 0
  pub members : within q m ≡ true
  pub few : m ≤ counter_capacity
  pub below : g < m

-- "the aim is the first output set from g on, going round, that meets home" (SPEC 5.6)
unfoldable pub first_from : ℕ → ℕ → ℕ → ℕ
first_from m q g = around m g (least m (λ k. has q (around m g k)))

-- "The counter becomes aim + 1, going round, if the move lands in the aim, else aim." (SPEC 5.6)
unfoldable pub passed_counter : ℕ → Bool → ℕ → ℕ
passed_counter m b a = elim b [ true ↦ around m a 1 | false ↦ a ]

unfoldable pub aimed_at : ℕ → ℕ → ℕ → ℕ → Bool
aimed_at m q a h = eqb (first_from m q h) a
