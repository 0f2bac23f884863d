-- `served`. Invariant: the outputs outside `rest` are in the sets of the requirements that they serve.
use Rattle.finite.specs.Bounded.{count}
use Rattle.bits.specs.Member.{has}
use Rattle.sets.specs.Words.{capacity, bits_of}
use Rattle.board.specs.Board.{game_on}
use Rattle.region_dues.proofs.Meaning.{Sorted}
use Rattle.region_dues.proofs.served.Given as goal

abbrev pub invariant-loop-z : goal.invariant-loop-z
invariant-loop-z g l = Sorted (game_on l.z l.b) (bits_of l.rest) l.first l.second

abbrev pub decreases-loop-z : goal.decreases-loop-z
decreases-loop-z g l = count capacity (has (bits_of l.rest))
