-- `start` meets its contract.
use Rattle.checker_rows.proofs.Leads.{table_long, few, some_inputs, start_read, start_fits}
use mathlib.Core.Path.{◌∙◌}
use native.Mathlib.Omega.{arith}
use Rattle.checker_rows.proofs.start.Goals as goal

pub offset_bounds-table-s : goal.offset_bounds-table-s
offset_bounds-table-s c = let P = c.requires in omega (arith, P.1, table_long _ _ _ P.0, few _ _ _ P.0)

pub bounds-table-s : goal.bounds-table-s
bounds-table-s c = let P = c.requires in omega (arith, P.1, table_long _ _ _ P.0)

pub lead-requires : goal.lead-requires
lead-requires c =
    let P = c.requires in (
      some_inputs _ _ _ P.0,
      omega (
        arith,
        start_read _ _ _ P.0 _ P.1 _
            c.out_initial.ensures,
        start_fits _ _ _ P.0 _ P.1,
      ),
    )

pub returns : goal.returns
returns c =
    let P = c.requires in c.lead.ensures ∙ start_read _ _ _ P.0 _ P.1 _ c.out_initial.ensures
