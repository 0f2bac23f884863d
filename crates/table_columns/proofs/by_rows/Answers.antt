-- `by_rows` writes the row of the lowest counter that is left, until none is.
use Prim.Native.Nat.{◌+◌, ◌*◌, ◌<◌}
use mathlib.Core.Path.{◌≡◌}
use mathlib.Core.Bool.{true}
use mathlib.Core.Logic.{◌≢◌}
use lib.ListN.{length}
use native.Mathlib.Omega.{arith}
use Rattle.bits.specs.Member.{has}
use Rattle.bits.proofs.Visit.{lowest_below, lowest_in_lem}
use Rattle.sets.specs.Words.{bits_of}
use Rattle.sets.proofs.Rows.{none, some, is_none, is_some}
use Rattle.table_counters.specs.Counters.{counter_capacity}
use Rattle.table_columns.specs.Column.{BlockFits}
use Rattle.table_columns.proofs.Rows.{Narrowed, inside_below, fits_inside, block_over, block_none, row_fits_lem, row_entry_lem, row_place, rowing_start, rowing_turn, rowing_falls, rowing_end}
use Rattle.table_columns.proofs.by_rows.Goals as goal

pub returns-then-is_empty : goal.returns-then-is_empty
returns-then-is_empty c =
    block_none _ _ _ _ c.below.ensures c.intersection-inside.ensures _ _ _ _ _ (none _ c.is_empty.ensures c.if-is_empty.true)

pub loop-inside-init : goal.loop-inside-init
loop-inside-init c = rowing_start _ _ _ _ _ _ _ (omega arith)

pub overflow_mul-width : goal.overflow_mul-width
overflow_mul-width c =
    let fits : let a = c.args in BlockFits (length a.room.now) a.base a.width (bits_of c.intersection-inside.result) a.which.0 a.first a.more = fits_inside _ _ _ _ c.below.ensures c.intersection-inside.ensures c.requires in
    let narrowed : Narrowed c.args.width (bits_of c.intersection-inside.result) = record {
      within = inside_below _ _ _ _ c.below.ensures c.intersection-inside.ensures;
      some = some _ c.is_empty.ensures c.if-is_empty.false;
    } in
    let some_left : c.loop-inside.left.0 ≢ 0 = is_some _ c.is_empty-in-loop-inside.ensures c.loop-inside-test.true-raw in
    let member : has c.args.which.0 c.lowest-h.result ≡ true = c.loop-inside.invariant.inside _ (lowest_in_lem counter_capacity c.loop-inside.left.0 _ c.loop-inside.invariant.small (some_left) c.lowest-h.ensures) in
    let place : let a = c.args in a.base + a.width * c.lowest-h.result < length a.room.now = row_place _ _ _ _ _ _ _ (fits) (narrowed) _ (member) in
    omega (arith, place)

pub overflow_add-base : goal.overflow_add-base
overflow_add-base c =
    let fits : let a = c.args in BlockFits (length a.room.now) a.base a.width (bits_of c.intersection-inside.result) a.which.0 a.first a.more = fits_inside _ _ _ _ c.below.ensures c.intersection-inside.ensures c.requires in
    let narrowed : Narrowed c.args.width (bits_of c.intersection-inside.result) = record {
      within = inside_below _ _ _ _ c.below.ensures c.intersection-inside.ensures;
      some = some _ c.is_empty.ensures c.if-is_empty.false;
    } in
    let some_left : c.loop-inside.left.0 ≢ 0 = is_some _ c.is_empty-in-loop-inside.ensures c.loop-inside-test.true-raw in
    let member : has c.args.which.0 c.lowest-h.result ≡ true = c.loop-inside.invariant.inside _ (lowest_in_lem counter_capacity c.loop-inside.left.0 _ c.loop-inside.invariant.small (some_left) c.lowest-h.ensures) in
    let place : let a = c.args in a.base + a.width * c.lowest-h.result < length a.room.now = row_place _ _ _ _ _ _ _ (fits) (narrowed) _ (member) in
    omega (arith, place)

pub overflow_cast-h : goal.overflow_cast-h
overflow_cast-h c =
    let some_left : c.loop-inside.left.0 ≢ 0 = is_some _ c.is_empty-in-loop-inside.ensures c.loop-inside-test.true-raw in
    let below : c.lowest-h.result < counter_capacity = lowest_below counter_capacity c.loop-inside.left.0 _ c.loop-inside.invariant.small (some_left) c.lowest-h.ensures in
    omega (arith, below)

pub overflow_mul-more : goal.overflow_mul-more
overflow_mul-more c =
    let fits : let a = c.args in BlockFits (length a.room.now) a.base a.width (bits_of c.intersection-inside.result) a.which.0 a.first a.more = fits_inside _ _ _ _ c.below.ensures c.intersection-inside.ensures c.requires in
    let narrowed : Narrowed c.args.width (bits_of c.intersection-inside.result) = record {
      within = inside_below _ _ _ _ c.below.ensures c.intersection-inside.ensures;
      some = some _ c.is_empty.ensures c.if-is_empty.false;
    } in
    let some_left : c.loop-inside.left.0 ≢ 0 = is_some _ c.is_empty-in-loop-inside.ensures c.loop-inside-test.true-raw in
    let member : has c.args.which.0 c.lowest-h.result ≡ true = c.loop-inside.invariant.inside _ (lowest_in_lem counter_capacity c.loop-inside.left.0 _ c.loop-inside.invariant.small (some_left) c.lowest-h.ensures) in
    let entry : let a = c.args in a.first + a.more * c.lowest-h.result < 65536 = row_entry_lem _ _ _ _ _ _ _ (fits) (narrowed) _ (member) in
    omega (arith, entry)

pub overflow_add-first : goal.overflow_add-first
overflow_add-first c =
    let fits : let a = c.args in BlockFits (length a.room.now) a.base a.width (bits_of c.intersection-inside.result) a.which.0 a.first a.more = fits_inside _ _ _ _ c.below.ensures c.intersection-inside.ensures c.requires in
    let narrowed : Narrowed c.args.width (bits_of c.intersection-inside.result) = record {
      within = inside_below _ _ _ _ c.below.ensures c.intersection-inside.ensures;
      some = some _ c.is_empty.ensures c.if-is_empty.false;
    } in
    let some_left : c.loop-inside.left.0 ≢ 0 = is_some _ c.is_empty-in-loop-inside.ensures c.loop-inside-test.true-raw in
    let member : has c.args.which.0 c.lowest-h.result ≡ true = c.loop-inside.invariant.inside _ (lowest_in_lem counter_capacity c.loop-inside.left.0 _ c.loop-inside.invariant.small (some_left) c.lowest-h.ensures) in
    let entry : let a = c.args in a.first + a.more * c.lowest-h.result < 65536 = row_entry_lem _ _ _ _ _ _ _ (fits) (narrowed) _ (member) in
    omega (arith, entry)

pub row-requires : goal.row-requires
row-requires c =
    let fits : let a = c.args in BlockFits (length a.room.now) a.base a.width (bits_of c.intersection-inside.result) a.which.0 a.first a.more = fits_inside _ _ _ _ c.below.ensures c.intersection-inside.ensures c.requires in
    let narrowed : Narrowed c.args.width (bits_of c.intersection-inside.result) = record {
      within = inside_below _ _ _ _ c.below.ensures c.intersection-inside.ensures;
      some = some _ c.is_empty.ensures c.if-is_empty.false;
    } in
    let some_left : c.loop-inside.left.0 ≢ 0 = is_some _ c.is_empty-in-loop-inside.ensures c.loop-inside-test.true-raw in
    let member : has c.args.which.0 c.lowest-h.result ≡ true = c.loop-inside.invariant.inside _ (lowest_in_lem counter_capacity c.loop-inside.left.0 _ c.loop-inside.invariant.small (some_left) c.lowest-h.ensures) in
    row_fits_lem _ _ _ _ _ _ _ (fits) (narrowed) _ (member) _ c.loop-inside.invariant.long

pub without_lowest-left-requires : goal.without_lowest-left-requires
without_lowest-left-requires c =
    let some_left : c.loop-inside.left.0 ≢ 0 = is_some _ c.is_empty-in-loop-inside.ensures c.loop-inside-test.true-raw in
    some_left

pub loop-inside-smaller : goal.loop-inside-smaller
loop-inside-smaller c =
    let some_left : c.loop-inside.left.0 ≢ 0 = is_some _ c.is_empty-in-loop-inside.ensures c.loop-inside-test.true-raw in
    rowing_falls _ _ _ _ _ _ _ _ c.loop-inside.left.0 _ _ c.loop-inside.invariant (some_left) c.lowest-h.ensures c.without_lowest-left.ensures

pub loop-inside-preserved : goal.loop-inside-preserved
loop-inside-preserved c =
    let some_left : c.loop-inside.left.0 ≢ 0 = is_some _ c.is_empty-in-loop-inside.ensures c.loop-inside-test.true-raw in
    let narrowed : Narrowed c.args.width (bits_of c.intersection-inside.result) = record {
      within = inside_below _ _ _ _ c.below.ensures c.intersection-inside.ensures;
      some = some _ c.is_empty.ensures c.if-is_empty.false;
    } in
    rowing_turn _ _ _ _ _ _ _ _ c.loop-inside.left.0 _ _ c.loop-inside.invariant (some_left) c.lowest-h.ensures c.without_lowest-left.ensures
    _ (narrowed) c.row.ensures

pub shape_of-room : goal.shape_of-room
shape_of-room c = c.loop-inside.invariant.long

pub returns : goal.returns
returns c =
    block_over _ _ _ _ c.below.ensures c.intersection-inside.ensures
    (rowing_end _ _ _ _ _ _ _ _ _ c.loop-inside.invariant (is_none _ c.is_empty-in-loop-inside.ensures c.loop-inside-test.false-raw))
