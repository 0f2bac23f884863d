-- `state_length` meets its contract.
use native.Mathlib.Omega.{arith}
use Rattle.text_grammar.proofs.Number.{three_digits}
use Rattle.text_shape.proofs.WordTable.{opening_short}
use Rattle.sets.specs.Words.{bits_of}
use Rattle.text_put.proofs.Lengths.{state_counted}
use Rattle.text_put.proofs.Bounds.{set_short}
use Rattle.text_put.proofs.measure.state_length.Goals as goal

pub overflow_add-result : goal.overflow_add-result
overflow_add-result c =
    omega (
      arith,
      c.opening_length.ensures,
      opening_short c.args.w,
      c.digits.ensures,
      three_digits c.args.s c.requires.1,
    )

pub overflow_add-result-2 : goal.overflow_add-result-2
overflow_add-result-2 c =
    omega (
      arith,
      c.opening_length.ensures,
      opening_short c.args.w,
      c.digits.ensures,
      three_digits c.args.s c.requires.1,
      c.set_length.ensures,
      set_short (bits_of c.args.x),
    )

pub overflow_add-result-3 : goal.overflow_add-result-3
overflow_add-result-3 c =
    omega (
      arith,
      c.opening_length.ensures,
      opening_short c.args.w,
      c.digits.ensures,
      three_digits c.args.s c.requires.1,
      c.set_length.ensures,
      set_short (bits_of c.args.x),
    )

pub returns : goal.returns
returns c =
    λ f h. omega (
      arith,
      state_counted c.args.w c.args.s f (bits_of c.args.x) h,
      c.opening_length.ensures,
      c.digits.ensures,
      c.set_length.ensures,
    )
