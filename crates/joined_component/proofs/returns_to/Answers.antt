-- `returns_to`.
use Prim.Native.Nat.{◌<◌}
use native.Mathlib.Omega.{arith}
use Rattle.bits.proofs.Passing.{passing_below, passing_member, passing_falls, passing_next}
use Rattle.joined_component.proofs.Tests.{entered_row, missed_row, all_left, entered, not_entered}
use Rattle.joined_component.proofs.returns_to.Goals as goal

pub output_moves-moves-requires : goal.output_moves-moves-requires
output_moves-moves-requires c = (c.requires.0, c.requires.2, c.requires.5)

pub input_moves-next-requires : goal.input_moves-next-requires
input_moves-next-requires c = (c.requires.0, c.requires.1, c.requires.4)

pub loop-rest-init : goal.loop-rest-init
loop-rest-init c = all_left _ _ _ _ c.requires.0 c.input_moves-next.ensures

pub overflow_add-j : goal.overflow_add-j
overflow_add-j c =
    let few : c.lowest-j.result < 32 = passing_below 64 _ _ _ c.loop-rest.rest c.loop-rest.invariant c.loop-rest-test.true _ c.lowest-j.ensures in
    omega (arith, few)

pub offset_bounds-s-j : goal.offset_bounds-s-j
offset_bounds-s-j c =
    let few : c.lowest-j.result < 32 = passing_below 64 _ _ _ c.loop-rest.rest c.loop-rest.invariant c.loop-rest-test.true _ c.lowest-j.ensures in
    omega (arith, few)

pub bounds-s-j : goal.bounds-s-j
bounds-s-j c =
    let few : c.lowest-j.result < 32 = passing_below 64 _ _ _ c.loop-rest.rest c.loop-rest.invariant c.loop-rest-test.true _ c.lowest-j.ensures in
    omega (arith, few)

pub returns-then-meets : goal.returns-then-meets
returns-then-meets c =
    entered _ c.requires.0 128 _ _ _ _ _ c.input_moves-next.ensures c.output_moves-moves.ensures _
    (passing_member 64 _ _ _ c.loop-rest.rest c.loop-rest.invariant c.loop-rest-test.true _ c.lowest-j.ensures)
    (entered_row _ 128 _ _ c.meets.ensures c.if-meets.true)

pub without_lowest-rest-requires : goal.without_lowest-rest-requires
without_lowest-rest-requires c = c.loop-rest-test.true

pub loop-rest-smaller : goal.loop-rest-smaller
loop-rest-smaller c =
    passing_falls 64 _ _ _ c.loop-rest.rest c.loop-rest.invariant c.loop-rest-test.true _ c.lowest-j.ensures _ c.without_lowest-rest.ensures

pub loop-rest-preserved : goal.loop-rest-preserved
loop-rest-preserved c =
    passing_next 64 _ _ _ c.loop-rest.rest c.loop-rest.invariant c.loop-rest-test.true _ c.lowest-j.ensures _ c.without_lowest-rest.ensures
    (missed_row _ 128 _ _ c.meets.ensures c.if-meets.false)

pub returns : goal.returns
returns c =
    not_entered _ c.requires.0 128 _ _ _ _ _ c.input_moves-next.ensures c.output_moves-moves.ensures c.loop-rest.rest c.loop-rest.invariant c.loop-rest-test.false
