-- `insert` adds one member.
use Rattle.bits.proofs.Membership.{has_insert}
use Rattle.bits.proofs.insert.Goals as goal

pub returns : goal.returns
returns c t = has_insert 64 c.args.x c.args.s t c.requires
