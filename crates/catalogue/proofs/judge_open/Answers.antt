-- `judge_open` meets its contract.
use Rattle.catalogue.proofs.Names.{from_open}
use Rattle.catalogue.proofs.judge_open.Goals as goal

pub returns : goal.returns
returns c = from_open _ c.judge_front.ensures
