-- `rows`: the rows with no home in reach, the rows with a home.
use native.Mathlib.Omega.{arith}
use Rattle.controller_rows.proofs.Writes.{long_plains}
use Rattle.controller_table.proofs.Setting.{table_of, scratch_long}
use Rattle.controller_table.proofs.Table.{rows_filled}
use Rattle.controller.proofs.rows.Goals as goal

pub firsts-firsts-requires : goal.firsts-firsts-requires
firsts-firsts-requires c =
    let p = c.requires in
    ((table_of _ _ p.0.sized _ p.1).inputs, omega (arith, scratch_long p.0))

pub plains-requires : goal.plains-requires
plains-requires c =
    let p = c.requires in
    (table_of _ _ p.0.sized _ p.1, scratch_long p.0, c.firsts-firsts.ensures)

pub settle_all-requires : goal.settle_all-requires
settle_all-requires c =
    let p = c.requires in
    (p.0, omega (arith, p.1, long_plains c.plains.ensures), p.2, p.3, p.4, c.firsts-firsts.ensures)

pub returns : goal.returns
returns c =
    let p = c.requires in
    rows_filled _ _ _ _ p.0 p.1 (rw p.3 at c.plains.ensures) c.settle_all.ensures
