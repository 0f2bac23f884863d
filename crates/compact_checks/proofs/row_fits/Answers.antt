-- `row_fits` goes through the inputs.
use mathlib.Core.Path.{◌∙◌}
use native.Mathlib.Omega.{arith}
use Rattle.compact_checks.proofs.Parts.{row_start, row_same, row_other, row_end}
use Rattle.compact_checks.proofs.row_fits.Goals as goal
use Rattle.compact_checks.proofs.row_fits.Goals.{then-table-row, else-table-row}

pub loop-k-init : goal.loop-k-init
loop-k-init c = (omega arith, row_start _ _ _ _)

pub bounds-firsts-k : goal.bounds-firsts-k
bounds-firsts-k c = omega (arith, c.requires.0)

pub overflow_add-row : goal.overflow_add-row
overflow_add-row c = omega (arith, c.requires.1)

pub overflow_add-row-in-loop-k : goal.overflow_add-row-in-loop-k
overflow_add-row-in-loop-k c = omega (arith, c.requires.1)

pub offset_bounds-table-row : goal.offset_bounds-table-row
offset_bounds-table-row c = omega (arith, c.requires.1)

pub bounds-table-row : goal.bounds-table-row
bounds-table-row c =
    omega (arith, c.requires.1)

pub overflow_add-row-in-loop-k-2 : goal.overflow_add-row-in-loop-k-2
overflow_add-row-in-loop-k-2 c =
    omega (arith, c.from-s.ensures, c.requires.2 c.loop-k.k c.loop-k-test.true)

pub offset_bounds-table-row-in-loop-k : goal.offset_bounds-table-row-in-loop-k
offset_bounds-table-row-in-loop-k c =
    omega (arith, c.from-s.ensures, c.requires.2 c.loop-k.k c.loop-k-test.true)

pub bounds-table-row-in-loop-k : goal.bounds-table-row-in-loop-k
bounds-table-row-in-loop-k c =
    omega (arith, c.from-s.ensures, c.requires.2 c.loop-k.k c.loop-k-test.true)

pub loop-k-smaller : goal.loop-k-smaller
loop-k-smaller c =
    omega (arith, c.loop-k-test.true)

pub loop-k-preserved : goal.loop-k-preserved
loop-k-preserved c =
    let l = c.loop-k in (
      omega (arith, c.loop-k-test.true),
      elim c.if-table-row.branch [
        | then-table-row t ↦ t.same-is ∙ row_other _ _ _ _ l.k c.from-s.ensures t.if-table-row.true
        | else-table-row t ↦ t.same-is ∙ row_same _ _ _ _ l.k c.from-s.ensures t.if-table-row.false l.invariant.1
      ],
    )

pub returns : goal.returns
returns c = row_end _ _ _ _ _ _ c.loop-k.invariant.0 c.loop-k-test.false c.loop-k.invariant.1
