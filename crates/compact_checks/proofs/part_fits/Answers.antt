-- `part_fits` goes through the row numbers.
use native.Mathlib.Omega.{arith}
use Rattle.finite.proofs.Loops.{failed, passed}
use Rattle.compact_rows.proofs.Copying.{row_last}
use Rattle.compact_checks.proofs.Parts.{part_start, part_turn, part_stop, part_end}
use Rattle.compact_checks.proofs.part_fits.Goals as goal

pub loop-x-init : goal.loop-x-init
loop-x-init c = (omega arith, part_start _ _ _ _ _)

pub overflow_mul-x : goal.overflow_mul-x
overflow_mul-x c =
    omega (arith, row_last c.args.inputs c.loop-x.x c.args.inputs c.args.rows _ c.loop-x-test.true c.requires.2)

pub overflow_add-inputs : goal.overflow_add-inputs
overflow_add-inputs c =
    omega (arith, row_last c.args.inputs c.loop-x.x c.args.inputs c.args.rows _ c.loop-x-test.true c.requires.2)

pub row_fits-requires : goal.row_fits-requires
row_fits-requires c =
    let h = row_last c.args.inputs c.loop-x.x c.args.inputs c.args.rows _ c.loop-x-test.true c.requires.2 in
    (c.requires.0, omega (arith, c.requires.1, h), λ k b. omega (arith, c.requires.3 k b, h))

pub returns-then-not-row_fits : goal.returns-then-not-row_fits
returns-then-not-row_fits c = part_stop _ _ _ _ _ _ _ c.loop-x-test.true (failed c.row_fits.ensures c.if-not-row_fits.true-raw)

pub loop-x-smaller : goal.loop-x-smaller
loop-x-smaller c = omega (arith, c.loop-x-test.true)

pub loop-x-preserved : goal.loop-x-preserved
loop-x-preserved c = (
  omega (arith, c.loop-x-test.true),
  part_turn _ _ _ _ _ c.loop-x.x (passed c.row_fits.ensures c.if-not-row_fits.false-raw) c.loop-x.invariant.1,
)

pub returns : goal.returns
returns c = part_end _ _ _ _ _ _ _ c.loop-x.invariant.0 c.loop-x-test.false c.loop-x.invariant.1
