-- `within`: a word has no member from 64 on.
use Rattle.std.proofs.Common.{refl, sym}
use Rattle.bits.specs.Member.{within}
use Rattle.bits.proofs.Membership.{within_word}
use Rattle.bits.proofs.within.Goals as goal

pub returns-then-n-ge64 : goal.returns-then-n-ge64
returns-then-n-ge64 c = sym (within_word 64 c.args.x c.args.n c.ranges.x.fits c.if-n-ge64.true)

pub returns : goal.returns
unfolding within
returns c = refl
