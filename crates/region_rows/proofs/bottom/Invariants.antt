-- `bottom` goes down from the first input that is left.
use Rattle.finite.specs.Bounded.{count}
use Rattle.bits.specs.Member.{has}
use Rattle.sets.specs.Words.{capacity, bits_of}
use Rattle.board.specs.Board.{game_on}
use Rattle.region_rows.specs.Fill.{Descending}
use Rattle.region_rows.proofs.bottom.Given as goal

abbrev pub ghost-descend : goal.ghost-descend
ghost-descend g a = game_on a.z a.b.now

abbrev pub invariant-loop-z : goal.invariant-loop-z
invariant-loop-z g l = Descending (game_on l.z l.b) (bits_of l.left.0) l.d

abbrev pub decreases-loop-z : goal.decreases-loop-z
decreases-loop-z g l = count capacity (has (bits_of l.d.rest.0))
