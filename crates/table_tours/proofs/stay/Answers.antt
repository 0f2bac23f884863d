-- `stay` goes through the states of the component.
use native.Mathlib.Omega.{arith}
use mathlib.Core.Path.{refl}
use Rattle.bits.proofs.Membership.{within_has}
use Rattle.table_layout.proofs.Places.{fits_same}
use Rattle.table_tours.proofs.Courses.{staying_stamps, left_start, left_small, left_in, left_next, left_end, stay_small}
use Rattle.table_tours.proofs.stay.Goals as goal

pub below-requires : goal.below-requires
below-requires c = omega (arith, c.requires.0.counters)

pub loop-s-init : goal.loop-s-init
loop-s-init c =
    let all = c.into_iter-s-iterator.ensures.into_iter_gives in
    let p = c.requires in
    rw all (left_start _ _ _ _ _ _ p.0.states p.1.members (record { columns = refl; which = c.below.ensures; hit = refl; miss = refl; more = refl }))

pub row_of-requires : goal.row_of-requires
row_of-requires c =
    let w = c.in-Some.ensures.steps in
    left_small _ _ _ _ _ c.loop-s.invariant w.some w.lowest

pub prefer-requires : goal.prefer-requires
prefer-requires c =
    let w = c.in-Some.ensures.steps in
    omega (arith, left_small _ _ _ _ _ c.loop-s.invariant w.some w.lowest)

pub write_move-requires : goal.write_move-requires
write_move-requires c =
    let w = c.in-Some.ensures.steps in
    let p = c.requires in
    let inside = left_in _ _ _ _ _ c.loop-s.invariant w.some w.lowest in (
      fits_same _ _ _ c.loop-s.invariant.long p.0,
      within_has _ _ _ p.1.members inside,
      stay_small _ _ _ _ _ _ p.1 p.0.states inside c.row_of.ensures.1 c.intersection-inside.ensures c.prefer.ensures,
      staying_stamps _ _ _ c.loop-s.invariant.staying,
    )

pub loop-s-preserved : goal.loop-s-preserved
loop-s-preserved c =
    let w = c.in-Some.ensures.steps in
    let p = c.requires in
    let inside = left_in _ _ _ _ _ c.loop-s.invariant w.some w.lowest in
    left_next _ _ _ _ _ c.loop-s.invariant w.some w.lowest _ w.others _ _ (within_has _ _ _ p.1.members inside)
    c.row_of.ensures.1 c.intersection-inside.ensures c.prefer.ensures c.write_move.ensures refl

pub shape_of-room : goal.shape_of-room
shape_of-room c = c.loop-s.invariant.long

pub returns : goal.returns
returns c = left_end _ _ _ _ _ c.loop-s.invariant c.in-None.ensures.steps.0
