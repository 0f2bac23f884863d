-- `environment_counters` is the count, at least 1.
use borrow.Author.Rules.{rules}
use Rattle.theory.specs.Entries.{environment_counters}
use Rattle.table_sizes.proofs.environment_counters.Goals as goal

pub returns : goal.returns
unfolding environment_counters
returns c = search rules
