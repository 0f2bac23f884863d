-- `put_word` meets its contract. The invariant: what is left, with what is done, makes the whole.
use native.Mathlib.Omega.{arith}
use Rattle.text_put.proofs.Buffer.{remains_all, puts_length}
use Rattle.text_shape.specs.Text.{word}
use Rattle.text_put.proofs.Pieces.{bytes_step, bytes_end}
use Rattle.print_lines.proofs.put_word.Goals as goal

pub loop-k-init : goal.loop-k-init
loop-k-init c = (remains_all _ _ _, omega arith, c.letters-n.ensures, c.requires)

pub loop-k-preserved : goal.loop-k-preserved
loop-k-preserved c = (
  bytes_step (word c.args.w) c.loop-k.k _ c.loop-k.invariant.0 (omega (arith, c.loop-k.invariant, c.loop-k-test.true))
      c.letter-b.ensures c.put_byte-to.ensures,
  omega
      (arith, c.loop-k.invariant, c.loop-k-test.true),
  c.loop-k.invariant.2,
  c.loop-k.invariant.3,
)

pub shape_of-buffer : goal.shape_of-buffer
shape_of-buffer c =
    puts_length (bytes_end (word c.args.w) c.loop-k.k c.loop-k.invariant.0
    (omega (arith, c.loop-k.invariant, c.loop-k-test.false)))

pub returns : goal.returns
returns c =
    bytes_end (word c.args.w) c.loop-k.k c.loop-k.invariant.0
    (omega (arith, c.loop-k.invariant, c.loop-k-test.false))
