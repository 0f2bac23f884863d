-- `crossings` of the inputs.
use Rattle.game.proofs.Laws.{accepted_fits}
use Rattle.graph_ranks.proofs.crossings.Goals as goal

pub crossed-requires : goal.crossed-requires
crossed-requires c = (accepted_fits _ c.requires).input.most
