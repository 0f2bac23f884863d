-- `outline_of` counts the sets of both sides.
use borrow.Author.Rules.{rules}
use Rattle.theory.specs.Entries.{controller_counters, environment_counters}
use Rattle.table_sizes.proofs.outline_of.Goals as goal

pub returns : goal.returns
unfolding controller_counters environment_counters
returns c = search rules
