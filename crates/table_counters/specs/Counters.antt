-- Sets of counters, each a number x: counter h belongs when `has x h`.
--
--   counter_capacity  == how many counters a set can hold
--   most_counters     == how many counters a table has at most
--   Past x r         == the members of x are below r, and the counter before r is one
use Rattle.std.specs.Prelude.{ℕ, ◌+◌, ◌≤◌, ◌<◌, ◌≡◌, true}
use Rattle.bits.specs.Member.{has}

abbrev pub counter_capacity : ℕ
counter_capacity = 64

-- "G is the number of output sets over all requirements"; "the controller's counter g runs below max(1, G). H and h are the same for input sets": of eight
-- requirements with four sets each (SPEC 5.1)
abbrev pub most_counters : ℕ
most_counters = 32

pub record Past (x r : ℕ) : Type 0 where
  pub few : r ≤ counter_capacity
  pub members : (h : ℕ) → has x h ≡ true → h < r
  pub last : (h : ℕ) → h + 1 ≡ r → has x h ≡ true
