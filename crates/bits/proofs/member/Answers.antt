-- `member` reads the digit of s.
use Rattle.std.proofs.Common.{refl}
use Rattle.bits.specs.Member.{has}
use Rattle.bits.proofs.member.Goals as goal

pub returns : goal.returns
unfolding has
returns c = refl
