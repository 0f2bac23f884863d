-- `legs` meets its contract.
use Rattle.checker_rounds.proofs.Courses.{going_start, going_found, going_missed, going_end, going_leg, going_below, going_next}
use Rattle.checker_rounds.proofs.Walking.{reach_held}
use mathlib.Core.Path.{refl}
use native.Mathlib.Omega.{arith}
use Rattle.checker_rounds.proofs.legs.Goals as goal

pub loop-j-init : goal.loop-j-init
loop-j-init c = going_start c.requires

pub first_in-requires : goal.first_in-requires
first_in-requires c =
    let P = c.requires in
    (P.grid.some, P.grid.few, going_found P c.loop-j.invariant)

pub returns-in_default : goal.returns-in_default
returns-in_default c =
    going_missed c.requires c.loop-j.invariant c.loop-j-test.true refl c.in_default.ensures

pub leg-length-requires : goal.leg-length-requires
leg-length-requires c =
    going_leg c.requires c.loop-j.invariant c.loop-j-test.true refl c.in-Some.ensures

pub offset_bounds-queue-k : goal.offset_bounds-queue-k
offset_bounds-queue-k c =
    omega (
      arith,
      (going_leg c.requires c.loop-j.invariant c.loop-j-test.true refl c.in-Some.ensures).place,
    )

pub bounds-queue-k : goal.bounds-queue-k
bounds-queue-k c =
    (going_leg c.requires c.loop-j.invariant c.loop-j-test.true refl c.in-Some.ensures).place

pub reach-found-requires : goal.reach-found-requires
reach-found-requires c =
    let P = c.requires in
    let R = c.loop-j.invariant.reach in (
      P.grid,
      R.sized,
      reach_held _ _ _ _ _ _ _ _ _ _ P.grid R,
      omega (
        arith,
        c.from-end.ensures,
        going_below P c.loop-j.invariant c.loop-j-test.true refl c.in-Some.ensures,
      ),
    )

pub loop-j-preserved : goal.loop-j-preserved
loop-j-preserved c =
    going_next c.requires c.loop-j.invariant c.loop-j-test.true refl c.in-Some.ensures c.leg-length.ensures
    c.from-end.ensures c.reach-found.ensures

pub returns : goal.returns
returns c = going_end c.requires c.loop-j.invariant c.loop-j-test.false
