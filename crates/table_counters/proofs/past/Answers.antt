-- `past`: the digits of a word reach its highest member.
use native.Mathlib.Nat.{lt_of_le_of_lt}
use native.Mathlib.Omega.{arith}
use lib.Dec.{lit<}
use lib.Count.{leading_le}
use Rattle.table_counters.specs.Counters.{counter_capacity}
use Rattle.table_counters.proofs.Highest.{past_word}
use Rattle.table_counters.proofs.past.Goals as goal

pub overflow_cast-result : goal.overflow_cast-result
overflow_cast-result c = record { fits = lt_of_le_of_lt (leading_le counter_capacity _) (lit< tt) }

pub overflow_sub-result : goal.overflow_sub-result
overflow_sub-result c = leading_le counter_capacity _

pub returns : goal.returns
returns c = past_word _ (omega arith)
