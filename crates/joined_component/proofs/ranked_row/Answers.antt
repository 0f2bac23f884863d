-- `ranked_row`.
use native.Mathlib.Nat.{zero-add}
use Prim.Native.Nat.{◌+◌, ◌*◌, ◌<◌}
use mathlib.Core.Path.{refl}
use native.Mathlib.Omega.{arith}
use Rattle.bits.proofs.Visit.{whole_start, collected_small, collected_below, collected_falls, collected_next, whole_end}
use Rattle.joined_component.specs.Component.{ranked_in}
use Rattle.joined_component.proofs.Drawing.{few_ahead}
use Rattle.joined_component.proofs.ranked_row.Goals as goal

pub loop-rest-init : goal.loop-rest-init
loop-rest-init c =
    whole_start 64 _ _ _ (omega (arith, c.requires.0)) (rw (zero-add c.args.at.0) c.requires.3)

pub overflow_mul-i : goal.overflow_mul-i
overflow_mul-i c =
    let below : c.lowest-o.result < c.args.m = collected_below 64 _ _ _ c.loop-rest.rest _ c.loop-rest.invariant c.loop-rest-test.true _ c.lowest-o.ensures in
    let ahead : c.args.at.0 * c.args.m + c.lowest-o.result < 1024 = few_ahead c.args.m c.args.at.0 _ c.requires.0 c.requires.1 (below) in
    omega (arith, ahead)

pub overflow_add-i : goal.overflow_add-i
overflow_add-i c =
    let below : c.lowest-o.result < c.args.m = collected_below 64 _ _ _ c.loop-rest.rest _ c.loop-rest.invariant c.loop-rest-test.true _ c.lowest-o.ensures in
    let ahead : c.args.at.0 * c.args.m + c.lowest-o.result < 1024 = few_ahead c.args.m c.args.at.0 _ c.requires.0 c.requires.1 (below) in
    omega (arith, ahead)

pub overflow_add-i-in-loop-rest : goal.overflow_add-i-in-loop-rest
overflow_add-i-in-loop-rest c =
    let below : c.lowest-o.result < c.args.m = collected_below 64 _ _ _ c.loop-rest.rest _ c.loop-rest.invariant c.loop-rest-test.true _ c.lowest-o.ensures in
    let ahead : c.args.at.0 * c.args.m + c.lowest-o.result < 1024 = few_ahead c.args.m c.args.at.0 _ c.requires.0 c.requires.1 (below) in
    omega (arith, ahead)

pub offset_bounds-s-i-in-loop-rest : goal.offset_bounds-s-i-in-loop-rest
offset_bounds-s-i-in-loop-rest c =
    let below : c.lowest-o.result < c.args.m = collected_below 64 _ _ _ c.loop-rest.rest _ c.loop-rest.invariant c.loop-rest-test.true _ c.lowest-o.ensures in
    let ahead : c.args.at.0 * c.args.m + c.lowest-o.result < 1024 = few_ahead c.args.m c.args.at.0 _ c.requires.0 c.requires.1 (below) in
    omega (arith, ahead)

pub bounds-s-i-in-loop-rest : goal.bounds-s-i-in-loop-rest
bounds-s-i-in-loop-rest c =
    let below : c.lowest-o.result < c.args.m = collected_below 64 _ _ _ c.loop-rest.rest _ c.loop-rest.invariant c.loop-rest-test.true _ c.lowest-o.ensures in
    let ahead : c.args.at.0 * c.args.m + c.lowest-o.result < 1024 = few_ahead c.args.m c.args.at.0 _ c.requires.0 c.requires.1 (below) in
    omega (arith, ahead)

pub insert_if-c-requires : goal.insert_if-c-requires
insert_if-c-requires c =
    collected_small 64 _ _ _ c.loop-rest.rest _ c.loop-rest.invariant c.loop-rest-test.true _ c.lowest-o.ensures

pub without_lowest-rest-requires : goal.without_lowest-rest-requires
without_lowest-rest-requires c = c.loop-rest-test.true

pub loop-rest-smaller : goal.loop-rest-smaller
loop-rest-smaller c =
    collected_falls 64 _ _ _ c.loop-rest.rest _ c.loop-rest.invariant c.loop-rest-test.true _ c.lowest-o.ensures _ c.without_lowest-rest.ensures

pub loop-rest-preserved : goal.loop-rest-preserved
unfolding ranked_in
loop-rest-preserved c =
    collected_next 64 _ _ _ c.loop-rest.rest _ c.loop-rest.invariant c.loop-rest-test.true _ c.lowest-o.ensures _ c.without_lowest-rest.ensures
    refl c.insert_if-c.ensures

pub returns : goal.returns
returns c =
    simp zero-add at (whole_end 64 _ _ _ c.loop-rest.rest _ c.loop-rest.invariant c.loop-rest-test.false (rw (zero-add c.args.at.0) c.requires.3))
