-- `inside` meets its contract.
use borrow.Author.Tests.{le-leb, lt-leb}
use Rattle.text_grammar.specs.Number.{within_range}
use Rattle.text_pieces.proofs.inside.Goals as goal

pub returns-then-lo-v : goal.returns-then-lo-v
unfolding within_range
returns-then-lo-v c = simp (le-leb _ _ c.if-lo-v.true)

pub returns-else-lo-v : goal.returns-else-lo-v
unfolding within_range
returns-else-lo-v c = simp (lt-leb _ _ c.if-lo-v.false)
