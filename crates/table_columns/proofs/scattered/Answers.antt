-- `scattered` writes the lowest place that is left, until none is. Invariant: what the low places left holds of the places that are left.
use Prim.Native.Nat.{◌+◌, ◌<◌}
use native.Mathlib.Omega.{arith}
use lib.ListN.{length}
use Rattle.table_columns.proofs.Rows.{scattered_below, scattering_turn, scattering_end}
use Rattle.table_columns.proofs.scattered.Goals as goal

pub loop-x-init : goal.loop-x-init
loop-x-init c = λ n x over h. h

pub overflow_add-room : goal.overflow_add-room
overflow_add-room c =
    let all = c.into_iter-x-iterator.ensures.into_iter_gives in
    let w = c.in-Some.ensures.steps in
    let left = (rw all at c.loop-x.invariant) _ _ _ c.scattered_low-x-items.ensures in
    let place_below : c.args.base + c.in-Some.x < length c.args.room.now = scattered_below _ _ _ _ _ _ _ _ _ left w.some w.lowest in
    omega (arith, place_below)

pub offset_bounds-room-base : goal.offset_bounds-room-base
offset_bounds-room-base c =
    let all = c.into_iter-x-iterator.ensures.into_iter_gives in
    let w = c.in-Some.ensures.steps in
    let left = (rw all at c.loop-x.invariant) _ _ _ c.scattered_low-x-items.ensures in
    let place_below : c.args.base + c.in-Some.x < length c.args.room.now = scattered_below _ _ _ _ _ _ _ _ _ left w.some w.lowest in
    omega (arith, place_below)

pub bounds-room-base : goal.bounds-room-base
bounds-room-base c =
    let all = c.into_iter-x-iterator.ensures.into_iter_gives in
    let w = c.in-Some.ensures.steps in
    let left = (rw all at c.loop-x.invariant) _ _ _ c.scattered_low-x-items.ensures in
    let place_below : c.args.base + c.in-Some.x < length c.args.room.now = scattered_below _ _ _ _ _ _ _ _ _ left w.some w.lowest in
    omega (arith, place_below, left.long)

pub loop-x-preserved : goal.loop-x-preserved
loop-x-preserved c =
    let w = c.in-Some.ensures.steps in
    λ n x over h. scattering_turn _ _ _ _ _ _ _ _ _ (c.loop-x.invariant n x over h) w.some w.lowest _ w.others

pub shape_of-room : goal.shape_of-room
shape_of-room c =
    let all = c.into_iter-x-iterator.ensures.into_iter_gives in
    ((rw all at c.loop-x.invariant) _ _ _ c.scattered_low-x-items.ensures).long

pub returns : goal.returns
returns c =
    let all = c.into_iter-x-iterator.ensures.into_iter_gives in
    scattering_end _ _ _ _ _ _ _ _ ((rw all at c.loop-x.invariant) _ _ _ c.scattered_low-x-items.ensures) c.in-None.ensures.steps.0
