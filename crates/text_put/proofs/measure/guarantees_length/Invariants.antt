-- `guarantees_length` goes through the sets.
use Rattle.text_shape.specs.Text.{out_words}
use Rattle.text_put.proofs.Lengths.{Listing}
use Rattle.text_put.proofs.measure.guarantees_length.Given as goal

abbrev pub invariant-loop-j : goal.invariant-loop-j
invariant-loop-j l = Listing l.n (out_words l.q.guarantees) l.to l.j
