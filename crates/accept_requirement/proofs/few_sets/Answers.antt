-- `few_sets` tests both lengths.
use Rattle.game.proofs.Steps.{few_many, few_next}
use Rattle.accept_requirement.proofs.few_sets.Goals as goal

pub returns-then-q-gt4 : goal.returns-then-q-gt4
returns-then-q-gt4 c = few_many _ c.if-q-gt4.true

pub returns : goal.returns
returns c = few_next _ c.if-q-gt4.false
