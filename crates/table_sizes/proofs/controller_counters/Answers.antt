-- `controller_counters` is the count, at least 1.
use borrow.Author.Rules.{rules}
use Rattle.theory.specs.Entries.{controller_counters}
use Rattle.table_sizes.proofs.controller_counters.Goals as goal

pub returns : goal.returns
unfolding controller_counters
returns c = search rules
