-- `requirement_length` meets its contract.
use native.Mathlib.Omega.{arith}
use Rattle.text_put.proofs.Pieces.{requirement_length}
use Rattle.text_put.proofs.Bounds.{requirement_short}
use Rattle.text_put.proofs.measure.requirement_length.Goals as goal

pub overflow_add-result : goal.overflow_add-result
overflow_add-result c =
    omega (
      arith,
      requirement_length c.args.q,
      requirement_short c.args.q c.requires,
      c.opening_length.ensures,
      c.assumptions_length.ensures,
    )

pub overflow_add-result-2 : goal.overflow_add-result-2
overflow_add-result-2 c =
    omega (
      arith,
      requirement_length c.args.q,
      requirement_short c.args.q c.requires,
      c.opening_length.ensures,
      c.assumptions_length.ensures,
      c.guarantees_length.ensures,
    )

pub overflow_add-result-3 : goal.overflow_add-result-3
overflow_add-result-3 c =
    omega (
      arith,
      requirement_length c.args.q,
      requirement_short c.args.q c.requires,
      c.opening_length.ensures,
      c.assumptions_length.ensures,
      c.guarantees_length.ensures,
    )

pub returns : goal.returns
returns c =
    omega (
      arith,
      requirement_length c.args.q,
      c.opening_length.ensures,
      c.assumptions_length.ensures,
      c.guarantees_length.ensures,
    )
