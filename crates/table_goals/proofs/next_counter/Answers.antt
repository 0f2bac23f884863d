-- `next_counter` by its two tests.
use Rattle.finite.proofs.Truth.{not_true, not_false}
use Rattle.table_goals.proofs.Goal.{passed_stays, passed_on, passed_round}
use Rattle.table_goals.proofs.next_counter.Goals as goal

pub returns-then-not-landed : goal.returns-then-not-landed
returns-then-not-landed c = passed_stays _ _ _ (not_true _ c.if-not-landed.true-raw)

pub returns-then-a-count : goal.returns-then-a-count
returns-then-a-count c = passed_on _ _ _ (not_false _ c.if-not-landed.false-raw) c.if-a-count.true

pub returns : goal.returns
returns c = passed_round _ _ _ (not_false _ c.if-not-landed.false-raw) c.requires c.if-a-count.false
