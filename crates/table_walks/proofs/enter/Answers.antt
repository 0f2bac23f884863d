-- `enter` goes through the states of own.
use mathlib.Core.Path.{refl}
use native.Mathlib.Omega.{arith}
use Rattle.table_layout.proofs.Places.{fits_same}
use Rattle.table_walks.proofs.Staying.{step_entries, entered_start, entered_small, entered_in, entered_next, entered_end, step_small}
use Rattle.table_walks.proofs.enter.Goals as goal

pub below-all-requires : goal.below-all-requires
below-all-requires c = omega (arith, c.requires.0.counters)

pub loop-s-init : goal.loop-s-init
loop-s-init c =
    let all = c.into_iter-s-iterator.ensures.into_iter_gives in
    let p = c.requires in
    rw all (entered_start _ _ _ _ _ _ p.0.states p.1)

pub row_of-requires : goal.row_of-requires
row_of-requires c =
    let w = c.in-Some.ensures.steps in
    entered_small _ _ _ _ _ c.loop-s.invariant w.some w.lowest

pub pack-first-requires : goal.pack-first-requires
pack-first-requires c =
    let all = c.into_iter-s-iterator.ensures.into_iter_gives in
    let w = c.in-Some.ensures.steps in
    let e = entered_in _ _ _ _ _ (rw all at c.loop-s.invariant) w.some w.lowest in
    (step_small _ _ _ _ _ _ _ c.requires.1 e c.row_of.ensures.1 c.intersection-open.ensures c.lowest.ensures, omega arith)

pub write_column-requires : goal.write_column-requires
write_column-requires c =
    let all = c.into_iter-s-iterator.ensures.into_iter_gives in
    let w = c.in-Some.ensures.steps in
    let p = c.requires in
    let e = entered_in _ _ _ _ _ (rw all at c.loop-s.invariant) w.some w.lowest in
    let chosen-small = step_small _ _ _ _ _ _ _ p.1 e c.row_of.ensures.1 c.intersection-open.ensures c.lowest.ensures in
    let F = fits_same _ _ _ c.loop-s.invariant.long p.0 in (
      F,
      p.1.below _ e,
      p.2,
      step_entries _ _ _ _ _ F c.below-all.ensures chosen-small c.pack-first.ensures,
    )

pub loop-s-preserved : goal.loop-s-preserved
loop-s-preserved c =
    let all = c.into_iter-s-iterator.ensures.into_iter_gives in
    let w = c.in-Some.ensures.steps in
    rw all (entered_next _ _ _ _ _ (rw all at c.loop-s.invariant) w.some w.lowest _ w.others _ _ _ _ _
    c.below-all.ensures c.requires.1 c.row_of.ensures.1 c.intersection-open.ensures
    c.lowest.ensures c.pack-first.ensures c.write_column.ensures refl)

pub shape_of-room : goal.shape_of-room
shape_of-room c = c.loop-s.invariant.long

pub returns : goal.returns
returns c =
    let all = c.into_iter-s-iterator.ensures.into_iter_gives in
    entered_end _ _ _ _ _ (rw all at c.loop-s.invariant) c.in-None.ensures.steps.0
