-- `meets` meets its contract.
use borrow.Author.Tests.{le-leb, lt-leb}
use mathlib.Core.Path.{sym, ◌∙◌}
use Rattle.text_grammar.proofs.Number.{meets_on, meets_off}
use Rattle.text_pieces.proofs.meets.Goals as goal

pub returns-then-hi-lo : goal.returns-then-hi-lo
returns-then-hi-lo c = sym (meets_off _ _ _ _ c.if-hi-lo.true)

pub returns-then-lo-b : goal.returns-then-lo-b
returns-then-lo-b c = sym (meets_on _ _ _ _ c.if-hi-lo.false ∙ simp (le-leb _ _ c.if-lo-b.true))

pub returns-else-lo-b : goal.returns-else-lo-b
returns-else-lo-b c = sym (meets_on _ _ _ _ c.if-hi-lo.false ∙ simp (lt-leb _ _ c.if-lo-b.false))
