-- `union` has the members of both.
use Rattle.bits.proofs.Membership.{has_or}
use Rattle.bits.proofs.union.Goals as goal

pub returns : goal.returns
returns c = has_or c.args.x c.args.y
