-- `exhaust` meets its contract.
use Rattle.checker_search.proofs.Grow.{exhausting_start, exhausting_short, exhausting_fits, exhausting_next, exhausting_end}
use native.Mathlib.Omega.{arith}
use Rattle.checker_search.proofs.exhaust.Goals as goal

pub loop-a-init : goal.loop-a-init
loop-a-init c = exhausting_start _ _ _ _ _ _ _ _ _ c.requires.1

pub offset_bounds-queue-a : goal.offset_bounds-queue-a
offset_bounds-queue-a c = omega (arith, exhausting_short _ _ _ _ _ _ _ _ _ _ _ _ _ _ c.loop-a.invariant, c.loop-a.invariant.grown.queued.places)

pub bounds-queue-a : goal.bounds-queue-a
bounds-queue-a c =
    omega (arith, exhausting_short _ _ _ _ _ _ _ _ _ _ _ _ _ _ c.loop-a.invariant, c.loop-a.invariant.grown.queued.places)

pub overflow_add-a : goal.overflow_add-a
overflow_add-a c =
    omega (
      arith,
      exhausting_short _ _ _ _ _ _ _ _ _ _ _ _ _ _
          c.loop-a.invariant,
      c.loop-a.invariant.grown.queued.places,
    )

pub spread-found-requires : goal.spread-found-requires
spread-found-requires c = (
  c.requires.0,
  exhausting_fits _ _ _ _ _ _ _ _ _ _ _ _ _ _
      c.loop-a.invariant c.loop-a-test.true,
  omega (
    arith,
    c.from-c.ensures,
    c.loop-a.invariant.grown.queued.below _
        c.loop-a-test.true,
  ),
)

pub loop-a-smaller : goal.loop-a-smaller
loop-a-smaller c =
    omega (
      arith,
      exhausting_short _ _ _ _ _ _ _ _ _ _ _ _ _ _
          c.loop-a.invariant,
      c.loop-a-test.true,
    )

pub loop-a-preserved : goal.loop-a-preserved
loop-a-preserved c =
    exhausting_next _ _ _ _ _ _ _ _ _ _ _ _ _ _ c.loop-a.invariant
    c.loop-a-test.true _ c.from-c.ensures _ _ _ _ c.spread-found.ensures

pub returns : goal.returns
returns c = exhausting_end _ _ _ _ _ _ _ _ _ _ _ _ _ _ c.loop-a.invariant c.loop-a-test.false
