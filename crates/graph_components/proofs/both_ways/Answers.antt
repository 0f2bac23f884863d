-- `both_ways` tests one word after the other.
use Rattle.finite.proofs.Loops.{and_stop, and_next}
use mathlib.Core.Path.{sym, ◌∙◌}
use Rattle.graph_components.proofs.both_ways.Goals as goal

pub returns-then-member : goal.returns-then-member
returns-then-member c = and_next (sym c.member.ensures ∙ c.if-member.true) c.member-then-member.ensures

pub returns : goal.returns
returns c = and_stop _ (sym c.member.ensures ∙ c.if-member.false)
