-- `walk`: round after round while states are left and a round settles some; each round leaves fewer.
use Rattle.finite.specs.Bounded.{count}
use Rattle.bits.specs.Member.{has}
use Rattle.sets.specs.Words.{capacity, bits_of, sets_in}
use Rattle.table_walks.proofs.Stamping.{Walked}
use Rattle.table_walks.proofs.walk.Given as goal

abbrev pub invariant-loop-z : goal.invariant-loop-z
invariant-loop-z l =
    Walked (sets_in l.rows) l.z (bits_of l.inside.0) (bits_of l.initial.reached) (bits_of l.initial.left) l.w (bits_of l.reached) (bits_of l.left) l.initial.room l.room

abbrev pub decreases-loop-z : goal.decreases-loop-z
decreases-loop-z l = count capacity (has (bits_of l.left))
