-- `components` counts the smallest states.
use Rattle.graph_ranks.proofs.Walk.{counted}
use Rattle.graph_ranks.proofs.components.Goals as goal

pub returns : goal.returns
returns c = counted _ c.requires.0 _ _ c.requires.1 c.count.ensures
