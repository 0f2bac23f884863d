-- `prefer` is the present state where it is a member, else the lowest member.
use mathlib.Core.Path.{sym, ◌∙◌}
use Rattle.bits.specs.Member.{has}
use Rattle.sets.specs.Words.{capacity}
use Rattle.graphs.proofs.Way.{prefer_present, prefer_lowest}
use Rattle.graph_ways.proofs.prefer.Goals as goal

pub returns-then-member : goal.returns-then-member
returns-then-member c = sym (prefer_present capacity _ (has _) c.requires (sym c.member.ensures ∙ c.if-member.true))

pub returns : goal.returns
returns c = c.lowest.ensures ∙ sym (prefer_lowest capacity _ (has _) (sym c.member.ensures ∙ c.if-member.false))
