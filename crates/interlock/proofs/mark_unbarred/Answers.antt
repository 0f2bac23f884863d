-- `mark_unbarred`.
use Rattle.interlock.proofs.Answers.{map_made}
use Rattle.interlock.proofs.mark_unbarred.Goals as goal

pub returns : goal.returns
returns c =
    map_made _ _ _ _ _ _ _ c.requires.0 c.requires.1 c.requires.2 c.won_map.ensures c.clear.ensures
