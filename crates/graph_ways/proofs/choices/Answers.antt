-- `choices`: s is left, so these are the moves of its row that the two sets have.
use Rattle.graph_ways.proofs.Round.{choices_of}
use Rattle.graph_ways.proofs.choices.Goals as goal

pub returns : goal.returns
returns c =
    choices_of _ _ _ _ _ _ _ c.requires.1 c.row_of.ensures.1 c.intersection-moves.ensures c.intersection.ensures
