-- `is_digit` meets its contract.
use borrow.Author.Tests.{le-leb, lt-leb}
use Rattle.text_grammar.specs.Number.{digit}
use Rattle.text_pieces.proofs.is_digit.Goals as goal

pub returns-then-b-ge-ZERO : goal.returns-then-b-ge-ZERO
unfolding digit
returns-then-b-ge-ZERO c = simp (le-leb _ _ c.if-b-ge-ZERO.true)

pub returns-else-b-ge-ZERO : goal.returns-else-b-ge-ZERO
unfolding digit
returns-else-b-ge-ZERO c = simp (lt-leb _ _ c.if-b-ge-ZERO.false)
