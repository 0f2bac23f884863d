-- `put_assumptions` meets its contract. The invariant: what is left, with what is done, makes the whole.
use Rattle.text_shape.specs.Text.{in_words}
use Rattle.text_put.proofs.Pieces.{SetsLeft}
use Rattle.text_put.proofs.put_assumptions.Given as goal

abbrev pub invariant-loop-j : goal.invariant-loop-j
invariant-loop-j l = SetsLeft l.initial.buffer l.initial.to l.n (in_words l.q.assumptions) l.buffer l.to l.gap l.j
