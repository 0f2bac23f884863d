-- `approach` goes through the inputs at home, those with the same lower homes at once.
use Rattle.finite.specs.Bounded.{count}
use Rattle.bits.specs.Member.{has}
use Rattle.sets.specs.Words.{capacity, bits_of}
use Rattle.controller_homeward.proofs.Homeward.{Homing}
use Rattle.controller_homeward.proofs.approach.Given as goal

abbrev pub invariant-loop-g : goal.invariant-loop-g
invariant-loop-g l = Homing l.g l.z l.w (bits_of l.rest) l.initial.room l.room

abbrev pub decreases-loop-g : goal.decreases-loop-g
decreases-loop-g l = count capacity (has (bits_of l.rest))
