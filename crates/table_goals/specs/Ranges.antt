-- The goals of a tour: the numbers of the sets that have a state in a set x.
--
--   met_in l x a        == set number a of l has a state in the set x
--   range_set s i     == the set at place i of s
--   Short s            == at most four sets, with numbers that a set of counters can hold
--   MetMore s x q j r  == where q has the goals before the sets of s, r also has those among the first j of them
use Rattle.std.specs.Prelude.{ℕ, ◌+◌, ◌≤◌, ◌<◌, ◌≡◌, Bool, ◌&&◌, List, get_or}
use Rattle.finite.specs.Bounded.{any}
use Rattle.bits.specs.Member.{has, pack, sets_meet}
use Rattle.sets.specs.Words.{capacity, bits_of, no_states}
use Rattle.table_counters.specs.Counters.{counter_capacity}
use Rattle.theory.specs.Tour.{goal_at}
use Rattle.table_goals.specs.declared.GoalRange.{GoalRange}

unfoldable pub met_in : List (ℕ → Bool) → ℕ → ℕ → Bool
met_in l x a = any capacity (λ t. goal_at l a t && has x t)

abbrev pub range_set : GoalRange → ℕ → ℕ
range_set s i = bits_of (get_or s.sets i no_states)

pub record Short (s : GoalRange) : Type 0 where
  pub places : s.count ≤ 4
  pub numbers : s.from + s.count ≤ counter_capacity

pub record MetMore (s : GoalRange) (x q j r : ℕ) : Type 0 where
  pub goals : (p : ℕ → Bool) → q ≡ pack s.from p → ((i : ℕ) → i < s.count → sets_meet capacity (range_set s i) x ≡ p (s.from + i))
      → r ≡ pack (s.from + j) p
