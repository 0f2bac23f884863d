-- `digits` meets its contract.
use mathlib.Core.Path.{sym}
use Rattle.text_put.proofs.Buffer.{digits_one, digits_two, digits_three}
use Rattle.text_put.proofs.measure.digits.Goals as goal

pub returns-then-v-lt10 : goal.returns-then-v-lt10
returns-then-v-lt10 c = sym (digits_one _ c.if-v-lt10.true)

pub returns-then-v-lt100 : goal.returns-then-v-lt100
returns-then-v-lt100 c = sym (digits_two _ c.if-v-lt10.false c.if-v-lt100.true)

pub returns : goal.returns
returns c = sym (digits_three _ c.if-v-lt100.false c.requires)
