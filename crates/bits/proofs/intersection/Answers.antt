-- `intersection` has the common members.
use Rattle.bits.proofs.Membership.{has_and}
use Rattle.bits.proofs.intersection.Goals as goal

pub returns : goal.returns
returns c = has_and c.args.x c.args.y
