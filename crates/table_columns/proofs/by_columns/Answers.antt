-- `by_columns` writes the column of the lowest place that is left, until none is.
use Prim.Native.Nat.{◌<◌}
use native.Mathlib.Omega.{arith}
use Rattle.sets.specs.Words.{bits_of}
use Rattle.table_columns.proofs.Rows.{inside_below, fits_inside, block_over}
use Rattle.table_columns.proofs.Blocks.{blocking_start, block_column, block_fits, blocking_turn, blocking_end}
use Rattle.table_columns.proofs.by_columns.Goals as goal

pub loop-x-init : goal.loop-x-init
loop-x-init c =
    let all = c.into_iter-x-iterator.ensures.into_iter_gives in
    rw all (blocking_start _ _ _ _ _ _ _ (inside_below _ _ _ _ c.below.ensures c.intersection-x-items.ensures) c.requires.narrow)

pub overflow_add-base : goal.overflow_add-base
overflow_add-base c =
    let w = c.in-Some.ensures.steps in
    let inside : c.in-Some.x < c.args.width = (block_column _ _ _ _ _ _ _ _ (bits_of c.loop-x.x-iterator.rest) _ c.loop-x.invariant w.some w.lowest).0 in
    omega (arith, inside, c.requires.inside)

pub column-requires : goal.column-requires
column-requires c =
    let all = c.into_iter-x-iterator.ensures.into_iter_gives in
    let w = c.in-Some.ensures.steps in
    block_fits _ _ _ _ _ _ _ _ (bits_of c.loop-x.x-iterator.rest) _ (rw all at c.loop-x.invariant) w.some w.lowest
    (fits_inside _ _ _ _ c.below.ensures c.intersection-x-items.ensures c.requires)

pub loop-x-preserved : goal.loop-x-preserved
loop-x-preserved c =
    let w = c.in-Some.ensures.steps in
    blocking_turn _ _ _ _ _ _ _ _ (bits_of c.loop-x.x-iterator.rest) _ c.loop-x.invariant w.some w.lowest _ w.others
    _ c.column.ensures

pub shape_of-room : goal.shape_of-room
shape_of-room c = c.loop-x.invariant.long

pub returns : goal.returns
returns c =
    let all = c.into_iter-x-iterator.ensures.into_iter_gives in
    block_over _ _ _ _ c.below.ensures c.intersection-x-items.ensures
    (blocking_end _ _ _ _ _ _ _ _ _ (rw all at c.loop-x.invariant) c.in-None.ensures.steps.0)
