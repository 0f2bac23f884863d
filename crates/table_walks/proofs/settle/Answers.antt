-- `settle` tries the lowest state that is left to try, until none is. Invariant: what the low states left holds of the states that are left.
use mathlib.Core.Path.{refl}
use native.Mathlib.Omega.{arith}
use Rattle.sets.proofs.Rows.{none, some}
use Rattle.table_layout.proofs.Places.{fits_same}
use Rattle.table_walks.proofs.Trying.{try_small, try_in, try_below, trying_hit, trying_miss, trying_end}
use Rattle.table_walks.proofs.Stamping.{settling_small}
use Rattle.table_walks.proofs.settle.Goals as goal

pub loop-t-init : goal.loop-t-init
loop-t-init c = λ x h. h

pub choices-moves-requires : goal.choices-moves-requires
choices-moves-requires c =
    let all = c.into_iter-t-iterator.ensures.into_iter_gives in
    let w = c.in-Some.ensures.steps in
    let tried = (rw all at c.loop-t.invariant) _ c.settle_low-low.ensures in
    (try_small _ _ _ _ _ _ tried w.some w.lowest, tried.member _ (try_in _ _ _ _ _ _ tried w.some w.lowest))

pub prefer-requires : goal.prefer-requires
prefer-requires c =
    let all = c.into_iter-t-iterator.ensures.into_iter_gives in
    let w = c.in-Some.ensures.steps in
    let tried = (rw all at c.loop-t.invariant) _ c.settle_low-low.ensures in
    omega (arith, try_small _ _ _ _ _ _ tried w.some w.lowest)

pub write_move-requires : goal.write_move-requires
write_move-requires c =
    let all = c.into_iter-t-iterator.ensures.into_iter_gives in
    let w = c.in-Some.ensures.steps in
    let p = c.requires in
    let tried = (rw all at c.loop-t.invariant) _ c.settle_low-low.ensures in (
      fits_same _ _ _ tried.long p.0,
      try_below _ _ _ _ _ _ tried w.some w.lowest,
      settling_small _ _ _ _ _ _ p.0.states p.2 c.choices-moves.ensures (some _ c.is_empty.ensures c.if-not-is_empty.true)
          c.prefer.ensures,
      p.1,
    )

pub insert-settled-requires : goal.insert-settled-requires
insert-settled-requires c =
    let all = c.into_iter-t-iterator.ensures.into_iter_gives in
    let w = c.in-Some.ensures.steps in
    let tried = (rw all at c.loop-t.invariant) _ c.settle_low-low.ensures in
    try_small _ _ _ _ _ _ tried w.some w.lowest

pub loop-t-preserved-then-not-is_empty : goal.loop-t-preserved-then-not-is_empty
loop-t-preserved-then-not-is_empty c =
    let w = c.in-Some.ensures.steps in
    λ x h. trying_hit _ _ _ _ _ _ (c.loop-t.invariant x h) w.some w.lowest _ w.others c.choices-moves.ensures
    (some _ c.is_empty.ensures c.if-not-is_empty.true) c.prefer.ensures c.insert-settled.ensures c.write_move.ensures refl refl

pub loop-t-preserved : goal.loop-t-preserved
loop-t-preserved c =
    let w = c.in-Some.ensures.steps in
    λ x h. trying_miss _ _ _ _ _ _ (c.loop-t.invariant x h) w.some w.lowest _ w.others c.choices-moves.ensures
    (none _ c.is_empty.ensures c.if-not-is_empty.false) refl refl

pub shape_of-room : goal.shape_of-room
shape_of-room c =
    let all = c.into_iter-t-iterator.ensures.into_iter_gives in
    ((rw all at c.loop-t.invariant) _ c.settle_low-low.ensures).long

pub returns : goal.returns
returns c =
    let all = c.into_iter-t-iterator.ensures.into_iter_gives in
    trying_end _ _ _ _ _ _ ((rw all at c.loop-t.invariant) _ c.settle_low-low.ensures) c.in-None.ensures.steps.0
