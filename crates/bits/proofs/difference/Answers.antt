-- `difference` has the members of x that are none of y's.
use Rattle.bits.proofs.Membership.{has_minus}
use Rattle.bits.proofs.difference.Goals as goal

pub returns : goal.returns
returns c = has_minus c.args.x c.args.y
