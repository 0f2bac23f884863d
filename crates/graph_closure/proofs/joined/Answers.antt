-- `joined` takes in the rows of the members by halves.
use Rattle.graph_closure.proofs.joined.Goals as goal

pub returns : goal.returns
returns c = c.joined_high.ensures _ c.joined_low-2.ensures
