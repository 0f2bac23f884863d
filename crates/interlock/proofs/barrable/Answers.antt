-- `barrable`.
use Rattle.interlock.proofs.Bars.{barrable_in, barrable_out}
use Rattle.interlock.proofs.barrable.Goals as goal

pub returns-then-i-g : goal.returns-then-i-g
returns-then-i-g c = barrable_in _ _ c.if-i-g.true

pub returns : goal.returns
returns c = barrable_out _ _ c.if-i-g.false
