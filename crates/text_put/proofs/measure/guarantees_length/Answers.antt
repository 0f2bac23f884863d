-- `guarantees_length` goes through the sets.
use native.Mathlib.Omega.{arith}
use Rattle.text_shape.specs.Text.{sets_text}
use Rattle.text_put.proofs.Pieces.{out_word}
use Rattle.text_put.proofs.Lengths.{listed, listing_start, listing_next, listing_end}
use Rattle.text_put.proofs.Bounds.{set_few}
use Rattle.text_put.proofs.measure.guarantees_length.Goals as goal

pub loop-j-init : goal.loop-j-init
loop-j-init c = listing_start _ _

pub overflow_add-to : goal.overflow_add-to
overflow_add-to c = omega (arith, set_few _ c.set_length.ensures)

pub overflow_add-to-in-loop-j : goal.overflow_add-to-in-loop-j
overflow_add-to-in-loop-j c = omega (arith, set_few _ c.set_length.ensures)

pub loop-j-preserved : goal.loop-j-preserved
loop-j-preserved c =
    listing_next _ _ c.loop-j.invariant c.loop-j-test.true (out_word c.args.q.guarantees c.loop-j.j) c.set_length.ensures

pub returns : goal.returns
unfolding sets_text listed
returns c = c.bracketed.ensures _ (listing_end c.loop-j.invariant c.loop-j-test.false)
