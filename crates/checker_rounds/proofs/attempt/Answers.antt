-- `attempt` meets its contract.
use Rattle.checker_rounds.proofs.Attempts.{pivot_start, pivot_legs, pivot_next, pivot_falls, alone_fits, held, missed_fits}
use Rattle.checker_rounds.proofs.Attempts.{closing_some, closing_fits, attempt_alone, attempt_missed, attempt_round, fits_same, tried_same}
use mathlib.Core.Path.{refl}
use Rattle.checker_rounds.proofs.attempt.Goals as goal

pub reach-found-requires : goal.reach-found-requires
reach-found-requires c = let F = c.requires in (F.grid, F.sized, F.held, F.below)

pub loop-mark-init : goal.loop-mark-init
loop-mark-init c = (refl, pivot_start _ _ _ _ _ _ _ _ _ _ _ _ _ c.requires _ _ _ _ c.reach-found.ensures)

pub legs-l-requires : goal.legs-l-requires
legs-l-requires c =
    pivot_legs _ _ _ _ _ _ _ _ _ _ _ _ _ (fits_same c.loop-mark.invariant.0
    c.requires) _ _ _ _ _ _ _
    c.loop-mark.invariant.1

pub cut-requires : goal.cut-requires
cut-requires c =
    missed_fits _ _ _ _ _ _ _ _ _ _ _ _ _ (fits_same
    c.loop-mark.invariant.0
    c.requires) _ _ _ _ _ _ _
    c.loop-mark.invariant.1 _ _ _ _ _ _
    c.legs-l.ensures

pub returns-in_default : goal.returns-in_default
returns-in_default c =
    tried_same c.loop-mark.invariant.0
    (attempt_missed _ _ _ _ _ _ _ _ _ _ _ _ _ (fits_same
    c.loop-mark.invariant.0
    c.requires) _ _ _ _ _ _ _
    c.loop-mark.invariant.1 _ _ _ _ _ _
    c.legs-l.ensures c.in_default.is _ c.cut.ensures)

pub unwrap-k-requires : goal.unwrap-k-requires
unwrap-k-requires c =
    closing_some _ _ _ _ _ _ _ _ _ _ _ _ _ (fits_same c.loop-mark.invariant.0 c.requires) _ _ _ _ _ _ _ c.loop-mark.invariant.1 _ _ _ _ _ _
    c.legs-l.ensures _ c.in-Some.is c.if-mark-pivot-eq1.true _ c.first_at.ensures

pub first_at-requires : goal.first_at-requires
first_at-requires c =
    (held _ _ _ _ _ _ _ _ _ _ _ _ _ (fits_same
    c.loop-mark.invariant.0
    c.requires) _ _ _ _ _ _ _
    c.loop-mark.invariant.1 _ _ _ _ _ _
    c.legs-l.ensures).short

pub leg-round-requires : goal.leg-round-requires
leg-round-requires c =
    let A = rw c.unwrap-k.ensures at c.first_at.ensures in
    closing_fits _ _ _ _ _ _ _ _ _ _ _ _ _ (fits_same
    c.loop-mark.invariant.0
    c.requires) _ _ _ _ _ _ _
    c.loop-mark.invariant.1 _ _ _ _ _ _
    c.legs-l.ensures
    _ c.in-Some.is c.if-mark-pivot-eq1.true _
    A

pub returns-then-mark-pivot-eq1 : goal.returns-then-mark-pivot-eq1
returns-then-mark-pivot-eq1 c =
    let A = rw c.unwrap-k.ensures at c.first_at.ensures in
    tried_same
    c.loop-mark.invariant.0
    (attempt_round _ _ _ _ _ _ _ _ _ _ _ _ _ (fits_same
    c.loop-mark.invariant.0
    c.requires) _ _ _ _ _ _ _
    c.loop-mark.invariant.1 _ _ _ _ _ _
    c.legs-l.ensures
    _ c.in-Some.is
    c.if-mark-pivot-eq1.true _ A _ _ _
    c.leg-round.ensures)

pub loop-mark-smaller : goal.loop-mark-smaller
loop-mark-smaller c =
    pivot_falls _ _ _ _ _ _ _ _ _ _ _ _ _ (fits_same
    c.loop-mark.invariant.0
    c.requires) _ _ _ _ _ _ _
    c.loop-mark.invariant.1 _ _ _ _ _ _
    c.legs-l.ensures _ c.in-Some.is
    c.loop-mark-test.true c.if-mark-pivot-eq1.false

pub loop-mark-preserved : goal.loop-mark-preserved
loop-mark-preserved c = (
  c.loop-mark.invariant.0,
  pivot_next _ _ _ _ _ _ _ _ _ _ _ _ _
      (fits_same c.loop-mark.invariant.0
      c.requires) _ _ _ _ _ _ _
      c.loop-mark.invariant.1 _ _ _ _ _ _
      c.legs-l.ensures _ c.in-Some.is,
)

pub cut-requires-2 : goal.cut-requires-2
cut-requires-2 c =
    alone_fits _ _ _ _ _ _ _ _ _ _ _ _ _ (fits_same c.loop-mark.invariant.0
    c.requires) _ _ _ _ _ _ _
    c.loop-mark.invariant.1

pub returns : goal.returns
returns c =
    tried_same c.loop-mark.invariant.0 (attempt_alone _ _ _ _ _ _ _ _ _ _ _ _ _ (fits_same
    c.loop-mark.invariant.0
    c.requires) _ _ _ _ _ _ _
    c.loop-mark.invariant.1 c.loop-mark-test.false _ c.cut-2.ensures)
