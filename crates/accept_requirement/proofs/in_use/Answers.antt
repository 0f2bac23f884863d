-- `in_use` by its three tests.
use Rattle.game.proofs.Steps.{use_below, use_assumed, use_next}
use Rattle.accept_requirement.proofs.in_use.Goals as goal

pub returns-then-r-g : goal.returns-then-r-g
returns-then-r-g c = use_below _ _ _ c.if-r-g.true

pub returns-then-q-ne0 : goal.returns-then-q-ne0
returns-then-q-ne0 c = use_assumed _ _ _ c.if-r-g.false c.if-q-ne0.true

pub returns : goal.returns
returns c = use_next _ _ _ c.if-r-g.false c.if-q-ne0.false
