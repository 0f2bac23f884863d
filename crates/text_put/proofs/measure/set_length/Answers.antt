-- `set_length` meets its contract.
use native.Mathlib.Omega.{arith}
use Rattle.text_shape.specs.Text.{set_text}
use Rattle.text_put.proofs.Lengths.{few, set_counted}
use Rattle.text_put.proofs.measure.set_length.Goals as goal

pub overflow_mul-count : goal.overflow_mul-count
overflow_mul-count c = omega (arith, few _ c.count.ensures)

pub overflow_add-count : goal.overflow_add-count
overflow_add-count c = omega (arith, few _ c.count.ensures, few _ c.count-2.ensures)

pub overflow_add-count-2 : goal.overflow_add-count-2
overflow_add-count-2 c = omega (arith, few _ c.count.ensures, few _ c.count-2.ensures, few _ c.count-3.ensures)

pub bracketed-requires : goal.bracketed-requires
bracketed-requires c = omega (arith, few _ c.count.ensures, few _ c.count-2.ensures, few _ c.count-3.ensures)

pub returns : goal.returns
unfolding set_text
returns c =
    c.bracketed.ensures _
    (set_counted _ _ _ _ _ c.below.ensures c.difference-tens.ensures c.below-2.ensures
    c.difference-hundreds.ensures _ _ _ c.count.ensures c.count-2.ensures c.count-3.ensures)
