-- `count_fits` tests both bounds.
use Rattle.game.proofs.Steps.{count_none, count_some}
use Rattle.accept_graph.proofs.count_fits.Goals as goal

pub returns-then-g-lt1 : goal.returns-then-g-lt1
returns-then-g-lt1 c = count_none _ c.if-g-lt1.true

pub returns : goal.returns
returns c = count_some _ c.if-g-lt1.false
