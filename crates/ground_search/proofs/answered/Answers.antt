-- `answered`.
use Rattle.ground_search.proofs.Meaning.{answered_means}
use Rattle.ground_search.proofs.answered.Goals as goal

pub returns : goal.returns
returns c =
    answered_means c.requires c.out_moves-moves.ensures c.won_outputs-won.ensures c.meets.ensures
