-- `put_text` meets its contract.
use native.Mathlib.Omega.{arith}
use mathlib.Core.Path.{refl}
use Rattle.text_put.proofs.Buffer.{remains_all, puts_length}
use Rattle.text_put.proofs.Pieces.{bytes_step, bytes_end}
use Rattle.catalogue_lines.proofs.put_text.Goals as goal

pub loop-k-init : goal.loop-k-init
loop-k-init c = (remains_all _ _ _, omega arith)

pub loop-k-preserved : goal.loop-k-preserved
loop-k-preserved c = (
  bytes_step c.args.text.now c.loop-k.k _ c.loop-k.invariant.0 c.loop-k-test.true refl
      c.put_byte-to.ensures,
  omega arith,
)

pub shape_of-buffer : goal.shape_of-buffer
shape_of-buffer c = puts_length (bytes_end c.args.text.now c.loop-k.k c.loop-k.invariant.0 c.loop-k-test.false)

pub returns : goal.returns
returns c = bytes_end c.args.text.now c.loop-k.k c.loop-k.invariant.0 c.loop-k-test.false
