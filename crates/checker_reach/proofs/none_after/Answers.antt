-- `none_after` meets its contract.
use Rattle.checker_reach.proofs.Gaps.{passing_row, passing_found, passing_next, passing_end}
use native.Mathlib.Omega.{arith}
use Rattle.checker_reach.proofs.none_after.Goals as goal

pub overflow_add-base : goal.overflow_add-base
overflow_add-base c =
    let w = c.in-Some.ensures.steps in
    omega (
      arith,
      passing_row _ _ _ _ _ c.requires _ c.loop-j.invariant w.some _ w.lowest,
    )

pub offset_bounds-to-base : goal.offset_bounds-to-base
offset_bounds-to-base c =
    let w = c.in-Some.ensures.steps in
    omega (
      arith,
      passing_row _ _ _ _ _ c.requires _ c.loop-j.invariant w.some _ w.lowest,
    )

pub bounds-to-base : goal.bounds-to-base
bounds-to-base c =
    let w = c.in-Some.ensures.steps in
    passing_row _ _ _ _ _ c.requires _ c.loop-j.invariant w.some _ w.lowest

pub returns-then-to-base : goal.returns-then-to-base
returns-then-to-base c =
    let w = c.in-Some.ensures.steps in
    passing_found _ _ _ _ _ c.requires _ c.loop-j.invariant
    w.some _ w.lowest c.if-to-base.true

pub loop-j-preserved : goal.loop-j-preserved
loop-j-preserved c =
    let w = c.in-Some.ensures.steps in
    passing_next _ _ _ _ _ c.requires _
    c.loop-j.invariant w.some _ w.lowest _
    w.others c.if-to-base.false

pub returns : goal.returns
returns c =
    passing_end _ _ _ _ _ c.requires _ c.loop-j.invariant c.in-None.ensures.steps.0
