-- `settle_low` tries the lowest state that is left to try, until it is not low.
use Prim.Native.Nat.{◌<◌}
use mathlib.Core.Path.{sym, ◌∙◌, ap}
use mathlib.Core.Logic.{◌≢◌}
use native.Mathlib.Omega.{arith}
use borrow.Author.Tests.{ltb-true}
use Rattle.finite.specs.Bounded.{least}
use Rattle.bits.specs.Member.{has}
use Rattle.sets.specs.Words.{capacity, low_states, bits_of}
use Rattle.sets.proofs.Rows.{is_none, is_some, low_some}
use Rattle.graph_ways.proofs.Passing.{passed_few}
use Rattle.table_layout.proofs.Places.{fits_same}
use Rattle.table_walks.proofs.Trying.{trying_start, trying_passed, try_small, try_in, try_below, trying_falls, trying_hit, trying_miss}
use Rattle.table_walks.proofs.Stamping.{settling_small}
use Rattle.table_walks.proofs.settle_low.Goals as goal
use Rattle.table_walks.proofs.settle_low.Goals.{then-not-is_empty, else-not-is_empty}

pub below-requires : goal.below-requires
below-requires c = omega (arith, c.requires.0.states)

pub loop-z-init : goal.loop-z-init
loop-z-init c =
    let p = c.requires in
    trying_passed _ _ _ _ _ _ _
    (trying_start _ _ _ _ _ _ _ _ _ _ p.0.states c.empty-settled.ensures.1 c.below.ensures c.intersection-tried.ensures)
    c.pass_over-rest.ensures c.intersection-near.ensures p.2

pub lowest_low-s-requires : goal.lowest_low-s-requires
lowest_low-s-requires c =
    let first : least capacity (has (bits_of c.loop-z.rest)) < low_states = ltb-true _ low_states (sym c.begins_low.ensures ∙ c.loop-z-test.true) in
    first

pub choices-open-requires : goal.choices-open-requires
choices-open-requires c =
    let first : least capacity (has (bits_of c.loop-z.rest)) < low_states = ltb-true _ low_states (sym c.begins_low.ensures ∙ c.loop-z-test.true) in
    let some_left : bits_of c.loop-z.rest ≢ 0 = low_some (first) in
    let small : c.lowest_low-s.result < capacity = try_small _ _ _ _ _ _ c.loop-z.invariant (some_left) c.lowest_low-s.ensures in
    let tried = c.loop-z.invariant in
    (small, tried.member _ (try_in _ _ _ _ _ _ tried (some_left) c.lowest_low-s.ensures))

pub prefer-requires : goal.prefer-requires
prefer-requires c =
    let first : least capacity (has (bits_of c.loop-z.rest)) < low_states = ltb-true _ low_states (sym c.begins_low.ensures ∙ c.loop-z-test.true) in
    let some_left : bits_of c.loop-z.rest ≢ 0 = low_some (first) in
    let small : c.lowest_low-s.result < capacity = try_small _ _ _ _ _ _ c.loop-z.invariant (some_left) c.lowest_low-s.ensures in
    omega (arith, small)

pub write_move-requires : goal.write_move-requires
write_move-requires c =
    let first : least capacity (has (bits_of c.loop-z.rest)) < low_states = ltb-true _ low_states (sym c.begins_low.ensures ∙ c.loop-z-test.true) in
    let some_left : bits_of c.loop-z.rest ≢ 0 = low_some (first) in
    let p = c.requires in (
      fits_same _ _ _ c.loop-z.invariant.long p.0,
      try_below _ _ _ _ _ _ c.loop-z.invariant (some_left) c.lowest_low-s.ensures,
      settling_small _ _ _ _ _ _ p.0.states p.2 c.choices-open.ensures (is_some _ c.is_empty.ensures c.if-not-is_empty.true-raw)
          c.prefer.ensures,
      p.1,
    )

pub insert-settled-requires : goal.insert-settled-requires
insert-settled-requires c =
    let first : least capacity (has (bits_of c.loop-z.rest)) < low_states = ltb-true _ low_states (sym c.begins_low.ensures ∙ c.loop-z-test.true) in
    let some_left : bits_of c.loop-z.rest ≢ 0 = low_some (first) in
    let small : c.lowest_low-s.result < capacity = try_small _ _ _ _ _ _ c.loop-z.invariant (some_left) c.lowest_low-s.ensures in
    small

pub without_lowest_low-requires : goal.without_lowest_low-requires
without_lowest_low-requires c =
    let first : least capacity (has (bits_of c.loop-z.rest)) < low_states = ltb-true _ low_states (sym c.begins_low.ensures ∙ c.loop-z-test.true) in
    first

pub loop-z-smaller : goal.loop-z-smaller
loop-z-smaller c =
    let first : least capacity (has (bits_of c.loop-z.rest)) < low_states = ltb-true _ low_states (sym c.begins_low.ensures ∙ c.loop-z-test.true) in
    let some_left : bits_of c.loop-z.rest ≢ 0 = low_some (first) in
    let less = trying_falls _ _ _ _ _ _ c.loop-z.invariant (some_left) c.lowest_low-s.ensures _
    c.without_lowest_low.ensures in
    omega (arith, passed_few _ _ _ c.pass_over-rest-in-loop-z.ensures, less)

pub loop-z-preserved : goal.loop-z-preserved
loop-z-preserved c =
    let first : least capacity (has (bits_of c.loop-z.rest)) < low_states = ltb-true _ low_states (sym c.begins_low.ensures ∙ c.loop-z-test.true) in
    let some_left : bits_of c.loop-z.rest ≢ 0 = low_some (first) in
    let more = some_left in
    let chosen = c.choices-open.ensures in
    let tested = c.is_empty.ensures in
    trying_passed _ _ _ _ _ _ _
    (elim c.if-not-is_empty.branch [
      | then-not-is_empty v ↦ trying_hit _ _ _ _ _ _ c.loop-z.invariant more c.lowest_low-s.ensures _ c.without_lowest_low.ensures chosen
          (is_some _ tested v.if-not-is_empty.true-raw) v.prefer.ensures v.insert-settled.ensures v.write_move.ensures v.room-is (ap bits_of v.settled-is)
      | else-not-is_empty v ↦ trying_miss _ _ _ _ _ _ c.loop-z.invariant more c.lowest_low-s.ensures _ c.without_lowest_low.ensures chosen
          (is_none _ tested v.if-not-is_empty.false-raw) v.room-is (ap bits_of v.settled-is)
    ])
    c.pass_over-rest-in-loop-z.ensures c.intersection-near.ensures c.requires.2

pub shape_of-room : goal.shape_of-room
shape_of-room c = c.loop-z.invariant.long

pub returns : goal.returns
returns c = c.loop-z.invariant
