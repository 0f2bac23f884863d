-- `without_lowest`: one less has the lowest bit clear and those above it as they are.
use Rattle.bits.proofs.Strip.{strip_lowest}
use Rattle.bits.proofs.without_lowest.Goals as goal

pub returns : goal.returns
returns c = strip_lowest 64 c.args.x c.ranges.x.fits c.requires
