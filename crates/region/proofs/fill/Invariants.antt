-- `fill`. Invariant: the rows of the inputs that are not left stand.
use Rattle.finite.specs.Bounded.{count}
use Rattle.bits.specs.Member.{has}
use Rattle.sets.specs.Words.{capacity, bits_of}
use Rattle.board.specs.Board.{game_on}
use Rattle.region_rows.specs.Fill.{Filling, PastKept}
use Rattle.region.proofs.fill.Given as goal

abbrev pub ghost-fill_component : goal.ghost-fill_component
ghost-fill_component g a = game_on a.z a.b.now

abbrev pub invariant-loop-z : goal.invariant-loop-z
invariant-loop-z g l = Filling (game_on l.z l.b) l.x l.s (bits_of l.left.0) × PastKept (game_on l.z l.b) l.initial.s l.s

abbrev pub decreases-loop-z : goal.decreases-loop-z
decreases-loop-z g l = count capacity (has (bits_of l.left.0))
