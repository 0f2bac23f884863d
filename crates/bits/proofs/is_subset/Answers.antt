-- `is_subset`: x & y is x when every member of x belongs to y.
use Rattle.bits.proofs.Compare.{subset_word}
use Rattle.bits.proofs.is_subset.Goals as goal

pub returns : goal.returns
returns c = subset_word 64 c.args.x c.args.y c.ranges.x.fits
