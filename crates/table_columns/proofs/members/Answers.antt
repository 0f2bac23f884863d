-- `members` writes the lowest counter that is left, until none is.
use Prim.Native.Nat.{◌+◌, ◌*◌, ◌<◌}
use native.Mathlib.Omega.{arith}
use mathlib.Core.Path.{◌≡◌}
use mathlib.Core.Bool.{true}
use mathlib.Core.Logic.{◌≢◌}
use lib.ListN.{length}
use Rattle.bits.specs.Member.{has}
use Rattle.bits.proofs.Visit.{lowest_below, lowest_in_lem}
use Rattle.sets.proofs.Rows.{is_none, is_some}
use Rattle.table_counters.specs.Counters.{counter_capacity}
use Rattle.table_columns.proofs.Columns.{columning_start, columning_turn, columning_end, column_falls}
use Rattle.table_columns.proofs.members.Goals as goal

pub loop-rest-init : goal.loop-rest-init
loop-rest-init c = columning_start _ _ _ _ _ _ (omega arith)

pub overflow_cast-room : goal.overflow_cast-room
overflow_cast-room c =
    let some_left : c.loop-rest.rest.0 ≢ 0 = is_some _ c.is_empty.ensures c.loop-rest-test.true-raw in
    let below : c.lowest-h.result < counter_capacity = lowest_below counter_capacity c.loop-rest.rest.0 _ c.loop-rest.invariant.small (some_left) c.lowest-h.ensures in
    omega (arith, below)

pub overflow_mul-room : goal.overflow_mul-room
overflow_mul-room c =
    let some_left : c.loop-rest.rest.0 ≢ 0 = is_some _ c.is_empty.ensures c.loop-rest-test.true-raw in
    let member : has c.args.which.0 c.lowest-h.result ≡ true = c.loop-rest.invariant.inside _ (lowest_in_lem counter_capacity c.loop-rest.rest.0 _ c.loop-rest.invariant.small (some_left) c.lowest-h.ensures) in
    let entry_small : c.args.first + c.args.more * c.lowest-h.result < 65536 = c.requires.small c.lowest-h.result (member) in
    omega (arith, entry_small)

pub overflow_add-room : goal.overflow_add-room
overflow_add-room c =
    let some_left : c.loop-rest.rest.0 ≢ 0 = is_some _ c.is_empty.ensures c.loop-rest-test.true-raw in
    let member : has c.args.which.0 c.lowest-h.result ≡ true = c.loop-rest.invariant.inside _ (lowest_in_lem counter_capacity c.loop-rest.rest.0 _ c.loop-rest.invariant.small (some_left) c.lowest-h.ensures) in
    let entry_small : c.args.first + c.args.more * c.lowest-h.result < 65536 = c.requires.small c.lowest-h.result (member) in
    omega (arith, entry_small)

pub overflow_mul-room-in-loop-rest : goal.overflow_mul-room-in-loop-rest
overflow_mul-room-in-loop-rest c =
    let some_left : c.loop-rest.rest.0 ≢ 0 = is_some _ c.is_empty.ensures c.loop-rest-test.true-raw in
    let member : has c.args.which.0 c.lowest-h.result ≡ true = c.loop-rest.invariant.inside _ (lowest_in_lem counter_capacity c.loop-rest.rest.0 _ c.loop-rest.invariant.small (some_left) c.lowest-h.ensures) in
    let place_below : c.args.base + c.args.step * c.lowest-h.result < length c.loop-rest.room = omega (arith, c.requires.below c.lowest-h.result (member), c.loop-rest.invariant.long) in
    omega (arith, place_below)

pub overflow_add-room-in-loop-rest : goal.overflow_add-room-in-loop-rest
overflow_add-room-in-loop-rest c =
    let some_left : c.loop-rest.rest.0 ≢ 0 = is_some _ c.is_empty.ensures c.loop-rest-test.true-raw in
    let member : has c.args.which.0 c.lowest-h.result ≡ true = c.loop-rest.invariant.inside _ (lowest_in_lem counter_capacity c.loop-rest.rest.0 _ c.loop-rest.invariant.small (some_left) c.lowest-h.ensures) in
    let place_below : c.args.base + c.args.step * c.lowest-h.result < length c.loop-rest.room = omega (arith, c.requires.below c.lowest-h.result (member), c.loop-rest.invariant.long) in
    omega (arith, place_below)

pub offset_bounds-room-base : goal.offset_bounds-room-base
offset_bounds-room-base c =
    let some_left : c.loop-rest.rest.0 ≢ 0 = is_some _ c.is_empty.ensures c.loop-rest-test.true-raw in
    let member : has c.args.which.0 c.lowest-h.result ≡ true = c.loop-rest.invariant.inside _ (lowest_in_lem counter_capacity c.loop-rest.rest.0 _ c.loop-rest.invariant.small (some_left) c.lowest-h.ensures) in
    let place_below : c.args.base + c.args.step * c.lowest-h.result < length c.loop-rest.room = omega (arith, c.requires.below c.lowest-h.result (member), c.loop-rest.invariant.long) in
    omega (arith, place_below)

pub bounds-room-base : goal.bounds-room-base
bounds-room-base c =
    let some_left : c.loop-rest.rest.0 ≢ 0 = is_some _ c.is_empty.ensures c.loop-rest-test.true-raw in
    let member : has c.args.which.0 c.lowest-h.result ≡ true = c.loop-rest.invariant.inside _ (lowest_in_lem counter_capacity c.loop-rest.rest.0 _ c.loop-rest.invariant.small (some_left) c.lowest-h.ensures) in
    let place_below : c.args.base + c.args.step * c.lowest-h.result < length c.loop-rest.room = omega (arith, c.requires.below c.lowest-h.result (member), c.loop-rest.invariant.long) in
    omega (arith, place_below)

pub without_lowest-rest-requires : goal.without_lowest-rest-requires
without_lowest-rest-requires c =
    let some_left : c.loop-rest.rest.0 ≢ 0 = is_some _ c.is_empty.ensures c.loop-rest-test.true-raw in
    some_left

pub loop-rest-smaller : goal.loop-rest-smaller
loop-rest-smaller c =
    let some_left : c.loop-rest.rest.0 ≢ 0 = is_some _ c.is_empty.ensures c.loop-rest-test.true-raw in
    column_falls _ _ _ _ _ _ _ c.loop-rest.rest.0 _ _ c.loop-rest.invariant (some_left) c.lowest-h.ensures
    c.without_lowest-rest.ensures

pub loop-rest-preserved : goal.loop-rest-preserved
loop-rest-preserved c =
    let some_left : c.loop-rest.rest.0 ≢ 0 = is_some _ c.is_empty.ensures c.loop-rest-test.true-raw in
    columning_turn _ _ _ _ _ _ _ c.loop-rest.rest.0 _ _ c.loop-rest.invariant (some_left) c.lowest-h.ensures
    c.without_lowest-rest.ensures

pub shape_of-room : goal.shape_of-room
shape_of-room c = c.loop-rest.invariant.long

pub returns : goal.returns
returns c = columning_end _ _ _ _ _ _ _ _ c.loop-rest.invariant (is_none _ c.is_empty.ensures c.loop-rest-test.false-raw)
