-- `assumptions_length` goes through the sets.
use Rattle.text_shape.specs.Text.{in_words}
use Rattle.text_put.proofs.Lengths.{Listing}
use Rattle.text_put.proofs.measure.assumptions_length.Given as goal

abbrev pub invariant-loop-j : goal.invariant-loop-j
invariant-loop-j l = Listing l.n (in_words l.q.assumptions) l.to l.j
