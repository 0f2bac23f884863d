-- `meets`: x & y is not 0 when there is a common member.
use Rattle.bits.proofs.Compare.{meets_word}
use Rattle.bits.proofs.meets.Goals as goal

pub returns : goal.returns
returns c = meets_word 64 c.args.x c.args.y c.ranges.x.fits
