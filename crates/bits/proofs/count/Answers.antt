-- `count`: the set digits are the members.
use Rattle.bits.proofs.Compare.{count_word}
use Rattle.bits.proofs.count.Goals as goal

pub returns : goal.returns
returns c = count_word 64 c.args.x c.ranges.x.fits
