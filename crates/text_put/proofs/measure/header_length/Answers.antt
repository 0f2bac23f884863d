-- `header_length` meets its contract.
use Prim.Native.Nat.{◌+◌, ◌≤◌}
use mathlib.Core.Path.{◌≡◌}
use native.Mathlib.Omega.{arith}
use lib.ListN.{length}
use Rattle.text_grammar.proofs.Number.{three_digits}
use Rattle.text_shape.proofs.WordTable.{opening_short}
use Rattle.text_shape.specs.Text.{header_line}
use Rattle.text_put.proofs.Lengths.{header_counted}
use Rattle.text_put.proofs.measure.header_length.Goals as goal

pub overflow_add-result : goal.overflow_add-result
overflow_add-result c =
    omega (arith, c.opening_length.ensures, opening_short 0, c.digits.ensures, three_digits c.args.i c.requires.0)

pub overflow_add-result-2 : goal.overflow_add-result-2
overflow_add-result-2 c =
    omega (
      arith,
      c.opening_length.ensures,
      opening_short 0,
      c.digits.ensures,
      three_digits c.args.i c.requires.0,
      c.digits-2.ensures,
      three_digits c.args.o c.requires.1,
    )

pub overflow_add-result-3 : goal.overflow_add-result-3
overflow_add-result-3 c =
    let total : c.opening_length.result + c.digits.result + c.digits-2.result + c.digits-3.result + 4 ≡ length (header_line c.args.i c.args.o c.args.k) = omega (
      arith,
      header_counted c.args.i c.args.o c.args.k,
      c.opening_length.ensures,
      c.digits.ensures,
      c.digits-2.ensures,
      c.digits-3.ensures,
    ) in
    let short : length (header_line c.args.i c.args.o c.args.k) ≤ 26 = omega (
      arith,
      header_counted c.args.i c.args.o c.args.k,
      opening_short 0,
      three_digits c.args.i c.requires.0,
      three_digits c.args.o c.requires.1,
      three_digits c.args.k c.requires.2,
    ) in
    omega (arith, total, short)

pub overflow_add-result-4 : goal.overflow_add-result-4
overflow_add-result-4 c =
    let total : c.opening_length.result + c.digits.result + c.digits-2.result + c.digits-3.result + 4 ≡ length (header_line c.args.i c.args.o c.args.k) = omega (
      arith,
      header_counted c.args.i c.args.o c.args.k,
      c.opening_length.ensures,
      c.digits.ensures,
      c.digits-2.ensures,
      c.digits-3.ensures,
    ) in
    let short : length (header_line c.args.i c.args.o c.args.k) ≤ 26 = omega (
      arith,
      header_counted c.args.i c.args.o c.args.k,
      opening_short 0,
      three_digits c.args.i c.requires.0,
      three_digits c.args.o c.requires.1,
      three_digits c.args.k c.requires.2,
    ) in
    omega (arith, total, short)

pub returns : goal.returns
returns c =
    let total : c.opening_length.result + c.digits.result + c.digits-2.result + c.digits-3.result + 4 ≡ length (header_line c.args.i c.args.o c.args.k) = omega (
      arith,
      header_counted c.args.i c.args.o c.args.k,
      c.opening_length.ensures,
      c.digits.ensures,
      c.digits-2.ensures,
      c.digits-3.ensures,
    ) in
    omega (arith, total)
