-- `pass_over`: where all of `near` are low, by `pass_over_low`; else nothing is passed over.
use mathlib.Core.Path.{sym, ◌∙◌}
use Rattle.graph_ways.proofs.Passing.{passed_none}
use Rattle.graph_ways.proofs.pass_over.Goals as goal

pub pass_over_low-requires : goal.pass_over_low-requires
pass_over_low-requires c = sym c.within.ensures ∙ c.if-within.true

pub returns-then-within : goal.returns-then-within
returns-then-within c = c.pass_over_low.ensures

pub returns : goal.returns
returns c = passed_none _ _ _
