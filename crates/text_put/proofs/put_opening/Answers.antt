-- `put_opening` meets its contract. The invariant: what is left, with what is done, makes the whole.
use native.Mathlib.Omega.{arith}
use Rattle.text_put.proofs.Buffer.{remains_all, puts_length}
use Rattle.text_shape.specs.Shape.{opening}
use Rattle.text_shape.proofs.WordTable.{word_short}
use Rattle.text_shape.proofs.Opening.{opening_length}
use Rattle.text_put.proofs.Pieces.{bytes_step, bytes_end}
use Rattle.text_put.proofs.put_opening.Goals as goal

pub letters-n-requires : goal.letters-n-requires
letters-n-requires c = c.requires

pub overflow_add-n : goal.overflow_add-n
overflow_add-n c = omega (arith, c.letters-n.ensures, word_short c.args.w)

pub loop-k-init : goal.loop-k-init
loop-k-init c = (
  remains_all _ _ _,
  omega arith,
  omega (arith, c.letters-n.ensures, opening_length c.args.w),
  c.requires,
)

pub opening_byte-b-requires : goal.opening_byte-b-requires
opening_byte-b-requires c = (c.loop-k.invariant.3, omega (arith, c.loop-k.invariant, c.loop-k-test.true))

pub loop-k-preserved : goal.loop-k-preserved
loop-k-preserved c = (
  bytes_step (opening c.args.w) c.loop-k.k _ c.loop-k.invariant.0
      (omega (arith, c.loop-k.invariant, c.loop-k-test.true)) c.opening_byte-b.ensures
      c.put_byte-to.ensures,
  omega (arith, c.loop-k.invariant, c.loop-k-test.true),
  c.loop-k.invariant.2,
  c.loop-k.invariant.3,
)

pub shape_of-buffer : goal.shape_of-buffer
shape_of-buffer c =
    puts_length (bytes_end (opening c.args.w) c.loop-k.k c.loop-k.invariant.0
    (omega (arith, c.loop-k.invariant, c.loop-k-test.false)))

pub returns : goal.returns
returns c =
    bytes_end (opening c.args.w) c.loop-k.k c.loop-k.invariant.0
    (omega (arith, c.loop-k.invariant, c.loop-k-test.false))
