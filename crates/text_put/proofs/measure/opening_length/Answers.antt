-- `opening_length` meets its contract.
use native.Mathlib.Omega.{arith}
use Rattle.text_shape.proofs.WordTable.{word_short}
use Rattle.text_shape.proofs.Opening.{opening_length}
use Rattle.text_put.proofs.measure.opening_length.Goals as goal

pub overflow_add-result : goal.overflow_add-result
overflow_add-result c = omega (arith, c.letters.ensures, word_short c.args.w)

pub returns : goal.returns
returns c = omega (arith, c.letters.ensures, opening_length c.args.w)
