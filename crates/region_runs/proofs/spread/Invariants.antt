-- `spread` goes from run to run.
use Rattle.finite.specs.Bounded.{count}
use Rattle.bits.specs.Member.{has}
use Rattle.sets.specs.Words.{capacity, bits_of}
use Rattle.region_runs.proofs.Runs.{Spreading}
use Rattle.region_runs.proofs.spread.Given as goal

abbrev pub invariant-loop-x : goal.invariant-loop-x
invariant-loop-x l = Spreading (bits_of l.initial.rest) (bits_of l.x.0) (bits_of l.all) (bits_of l.rest) (bits_of l.y)

abbrev pub decreases-loop-x : goal.decreases-loop-x
decreases-loop-x l = count capacity (has (bits_of l.rest))
