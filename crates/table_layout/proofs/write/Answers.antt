-- `write` is a block of the rows of one state.
use native.Mathlib.Omega.{arith}
use mathlib.Core.Path.{refl}
use Rattle.table_layout.proofs.Places.{own_small, row_small, write_fits, write_done}
use Rattle.table_layout.proofs.write.Goals as goal

pub overflow_mul-a : goal.overflow_mul-a
overflow_mul-a c = let p = c.requires in omega (arith, own_small _ _ _ p.0 p.1)

pub overflow_mul-a-2 : goal.overflow_mul-a-2
overflow_mul-a-2 c = let p = c.requires in omega (arith, row_small _ _ _ p.0 p.1)

pub overflow_add-z : goal.overflow_add-z
overflow_add-z c = let p = c.requires in omega (arith, row_small _ _ _ p.0 p.1, p.0.front)

pub block-requires : goal.block-requires
block-requires c = let p = c.requires in write_fits _ _ _ p.0 p.1 _ _ _ _ p.2

pub returns : goal.returns
returns c =
    let p = c.requires in
    write_done _ _ _ p.0 p.1 _ _ _ _ p.2 refl c.block.ensures
