-- `limit` by its two cases.
use Rattle.game.proofs.Steps.{limit_in, limit_out}
use Rattle.accept_graph.proofs.limit.Goals as goal

pub returns-then-j-used : goal.returns-then-j-used
returns-then-j-used c = limit_in _ _ _ c.if-j-used.true

pub returns : goal.returns
returns c = limit_out _ _ _ c.if-j-used.false
