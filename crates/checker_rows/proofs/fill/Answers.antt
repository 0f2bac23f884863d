-- `fill` meets its contract.
use Rattle.checker_rows.proofs.Leads.{few, some_inputs, some_counters, outputs_most, table_long, row_below, row_output, row_read, row_fits_lem, filled_start, filled_next, filled_end}
use Rattle.game.proofs.Laws.{accepted_fits}
use mathlib.Core.Path.{◌∙◌}
use native.Mathlib.Omega.{arith}
use Rattle.checker_rows.proofs.fill.Goals as goal

pub loop-r-init : goal.loop-r-init
loop-r-init c = (omega arith, filled_start _ _ _ c.requires.2)

pub nonzero_div-r : goal.nonzero_div-r
nonzero_div-r c =
    omega (arith, some_inputs _ _ _ c.requires.0)

pub nonzero_div-r-in-loop-r : goal.nonzero_div-r-in-loop-r
nonzero_div-r-in-loop-r c =
    omega (arith, some_counters _ _ _ c.requires.0 _ (row_below _ _ _ c.requires.0 _ _ c.requires.1 c.loop-r-test.true))

pub replies-allowed-requires : goal.replies-allowed-requires
replies-allowed-requires c =
    omega (arith, row_output _ _ _ c.requires.0 _ (row_below _ _ _ c.requires.0 _ _ c.requires.1 c.loop-r-test.true), outputs_most _ _ _ c.requires.0)

pub nonzero_rem-r : goal.nonzero_rem-r
nonzero_rem-r c =
    omega (arith, some_inputs _ _ _ c.requires.0)

pub overflow_add-inputs : goal.overflow_add-inputs
overflow_add-inputs c =
    omega (
      arith,
      row_below _ _ _ c.requires.0 _ _ c.requires.1 c.loop-r-test.true,
      table_long _ _ _ c.requires.0,
      few _ _ _ c.requires.0,
      (accepted_fits _ c.requires.0.accepted).input.most,
    )

pub offset_bounds-table-inputs : goal.offset_bounds-table-inputs
offset_bounds-table-inputs c =
    omega (
      arith,
      row_below _ _ _ c.requires.0 _ _ c.requires.1 c.loop-r-test.true,
      table_long _ _ _ c.requires.0,
      few _ _ _ c.requires.0,
      (accepted_fits _ c.requires.0.accepted).input.most,
    )

pub bounds-table-inputs : goal.bounds-table-inputs
bounds-table-inputs c =
    omega (arith, row_below _ _ _ c.requires.0 _ _ c.requires.1 c.loop-r-test.true, table_long _ _ _ c.requires.0)

pub lead-requires : goal.lead-requires
lead-requires c =
    let b = row_below _ _ _ c.requires.0 _ _ c.requires.1 c.loop-r-test.true in (
      some_inputs _ _ _ c.requires.0,
      omega (arith, row_read _ _ _ c.requires.0 _ b _ c.replies-allowed.ensures, row_fits_lem _ _ _ c.requires.0 _ b),
    )

pub offset_bounds-to-r : goal.offset_bounds-to-r
offset_bounds-to-r c =
    omega (arith, row_below _ _ _ c.requires.0 _ _ c.requires.1 c.loop-r-test.true, few _ _ _ c.requires.0)

pub bounds-to-r : goal.bounds-to-r
bounds-to-r c =
    omega (arith, row_below _ _ _ c.requires.0 _ _ c.requires.1 c.loop-r-test.true, few _ _ _ c.requires.0)

pub loop-r-preserved : goal.loop-r-preserved
loop-r-preserved c =
    let b = row_below _ _ _ c.requires.0 _ _ c.requires.1 c.loop-r-test.true in (
      omega (arith, c.loop-r-test.true),
      filled_next _ _ _ _ c.loop-r.invariant.1 (few _ _ _ c.requires.0) b _ (c.lead.ensures ∙ row_read _ _ _ c.requires.0 _ b _ c.replies-allowed.ensures),
    )

pub returns : goal.returns
returns c = filled_end _ _ _ _ _ c.loop-r.invariant.0 c.loop-r-test.false c.loop-r.invariant.1
