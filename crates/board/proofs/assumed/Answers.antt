-- `assumed` reads the count.
use borrow.Author.Rules.{rules}
use Rattle.board.specs.Board.{requirement_on}
use Rattle.board.proofs.assumed.Goals as goal

pub returns : goal.returns
unfolding requirement_on
returns c = search rules
