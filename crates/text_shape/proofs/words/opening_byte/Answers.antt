-- `opening_byte` meets its contract.
use mathlib.Core.Path.{◌∙◌}
use native.Mathlib.Omega.{arith}
use Rattle.text_shape.proofs.Opening.{opening_first, opening_letter, opening_last}
use Rattle.text_shape.proofs.words.opening_byte.Goals as goal

pub returns-then-k-eq0 : goal.returns-then-k-eq0
returns-then-k-eq0 c = opening_first _ _ c.if-k-eq0.true

pub returns-then-k-n : goal.returns-then-k-n
returns-then-k-n c =
    c.letter.ensures ∙ opening_letter _ _ c.if-k-eq0.false (omega (arith, c.if-k-n.true, c.letters-n.ensures))

pub returns : goal.returns
returns c = opening_last _ _ (omega (arith, c.if-k-n.false, c.letters-n.ensures)) c.requires.1
