-- `write_column` is a column of the rows of one state.
use native.Mathlib.Omega.{arith}
use mathlib.Core.Path.{refl}
use Rattle.table_layout.proofs.Places.{own_small, row_small, column_fits, column_done}
use Rattle.table_layout.proofs.write_column.Goals as goal

pub overflow_mul-a : goal.overflow_mul-a
overflow_mul-a c = let p = c.requires in omega (arith, own_small _ _ _ p.0 p.1)

pub overflow_mul-a-2 : goal.overflow_mul-a-2
overflow_mul-a-2 c = let p = c.requires in omega (arith, row_small _ _ _ p.0 p.1)

pub overflow_add-z : goal.overflow_add-z
overflow_add-z c = let p = c.requires in omega (arith, row_small _ _ _ p.0 p.1, p.0.front)

pub overflow_add-z-2 : goal.overflow_add-z-2
overflow_add-z-2 c =
    let p = c.requires in
    omega (arith, row_small _ _ _ p.0 p.1, p.0.front, p.0.width, p.2)

pub column-requires : goal.column-requires
column-requires c = let p = c.requires in column_fits _ _ _ p.0 p.1 _ _ _ _ p.2 p.3

pub returns : goal.returns
returns c =
    let p = c.requires in
    column_done _ _ _ p.0 p.1 _ _ _ _ p.2 p.3 refl c.column.ensures
