-- `flag` meets its contract.
use mathlib.Core.Path.{sym, ◌∙◌, ap}
use Rattle.finite.specs.Bounded.{one}
use Rattle.text_put.proofs.flag.Goals as goal

pub returns-then-member : goal.returns-then-member
unfolding one
returns-then-member c = sym (ap one (sym c.member.ensures ∙ c.if-member.true))

pub returns : goal.returns
unfolding one
returns c = sym (ap one (sym c.member.ensures ∙ c.if-member.false))
