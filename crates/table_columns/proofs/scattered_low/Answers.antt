-- `scattered_low` writes the lowest place that is left, until it is not low.
use Prim.Native.Nat.{◌+◌, ◌<◌}
use mathlib.Core.Path.{sym, ◌∙◌}
use mathlib.Core.Logic.{◌≢◌}
use native.Mathlib.Omega.{arith}
use lib.ListN.{length}
use borrow.Author.Tests.{ltb-true}
use Rattle.finite.specs.Bounded.{least}
use Rattle.bits.specs.Member.{has}
use Rattle.sets.specs.Words.{capacity, low_states, bits_of}
use Rattle.sets.proofs.Rows.{low_some}
use Rattle.table_columns.proofs.Rows.{scattering_start, scattered_below, scattering_turn, scattering_falls}
use Rattle.table_columns.proofs.scattered_low.Goals as goal

pub loop-x-init : goal.loop-x-init
loop-x-init c = scattering_start _ _ _ _ _ _ c.requires

pub lowest_low-x-requires : goal.lowest_low-x-requires
lowest_low-x-requires c =
    let first : least capacity (has (bits_of c.loop-x.rest)) < low_states = ltb-true _ low_states (sym c.begins_low.ensures ∙ c.loop-x-test.true) in
    first

pub overflow_add-room : goal.overflow_add-room
overflow_add-room c =
    let first : least capacity (has (bits_of c.loop-x.rest)) < low_states = ltb-true _ low_states (sym c.begins_low.ensures ∙ c.loop-x-test.true) in
    let some_left : bits_of c.loop-x.rest ≢ 0 = low_some (first) in
    let place_below : c.args.base + c.lowest_low-x.result < length c.loop-x.room = omega (arith, scattered_below _ _ _ _ _ _ _ _ _ c.loop-x.invariant (some_left) c.lowest_low-x.ensures, c.loop-x.invariant.long) in
    omega (arith, place_below)

pub offset_bounds-room-base : goal.offset_bounds-room-base
offset_bounds-room-base c =
    let first : least capacity (has (bits_of c.loop-x.rest)) < low_states = ltb-true _ low_states (sym c.begins_low.ensures ∙ c.loop-x-test.true) in
    let some_left : bits_of c.loop-x.rest ≢ 0 = low_some (first) in
    let place_below : c.args.base + c.lowest_low-x.result < length c.loop-x.room = omega (arith, scattered_below _ _ _ _ _ _ _ _ _ c.loop-x.invariant (some_left) c.lowest_low-x.ensures, c.loop-x.invariant.long) in
    omega (arith, place_below)

pub bounds-room-base : goal.bounds-room-base
bounds-room-base c =
    let first : least capacity (has (bits_of c.loop-x.rest)) < low_states = ltb-true _ low_states (sym c.begins_low.ensures ∙ c.loop-x-test.true) in
    let some_left : bits_of c.loop-x.rest ≢ 0 = low_some (first) in
    let place_below : c.args.base + c.lowest_low-x.result < length c.loop-x.room = omega (arith, scattered_below _ _ _ _ _ _ _ _ _ c.loop-x.invariant (some_left) c.lowest_low-x.ensures, c.loop-x.invariant.long) in
    omega (arith, place_below)

pub without_lowest_low-rest-requires : goal.without_lowest_low-rest-requires
without_lowest_low-rest-requires c =
    let first : least capacity (has (bits_of c.loop-x.rest)) < low_states = ltb-true _ low_states (sym c.begins_low.ensures ∙ c.loop-x-test.true) in
    first

pub loop-x-smaller : goal.loop-x-smaller
loop-x-smaller c =
    let first : least capacity (has (bits_of c.loop-x.rest)) < low_states = ltb-true _ low_states (sym c.begins_low.ensures ∙ c.loop-x-test.true) in
    let some_left : bits_of c.loop-x.rest ≢ 0 = low_some (first) in
    scattering_falls _ _ _ _ _ _ _ _ _ c.loop-x.invariant (some_left) c.lowest_low-x.ensures _ c.without_lowest_low-rest.ensures

pub loop-x-preserved : goal.loop-x-preserved
loop-x-preserved c =
    let first : least capacity (has (bits_of c.loop-x.rest)) < low_states = ltb-true _ low_states (sym c.begins_low.ensures ∙ c.loop-x-test.true) in
    let some_left : bits_of c.loop-x.rest ≢ 0 = low_some (first) in
    scattering_turn _ _ _ _ _ _ _ _ _ c.loop-x.invariant (some_left) c.lowest_low-x.ensures _ c.without_lowest_low-rest.ensures

pub shape_of-room : goal.shape_of-room
shape_of-room c = c.loop-x.invariant.long

pub returns : goal.returns
returns c = c.loop-x.invariant
