-- `spread` meets its contract.
use Rattle.checker_search.proofs.Grow.{spreading_fits, spreading_row, spreading_next, spreading_end}
use native.Mathlib.Omega.{arith}
use Rattle.checker_search.proofs.spread.Goals as goal

pub overflow_add-base : goal.overflow_add-base
overflow_add-base c =
    let w = c.in-Some.ensures.steps in
    omega (
      arith,
      spreading_row _ _ _ _ _ _ _ _ _ _ _ c.requires _ _ _ _ _
          c.loop-j.invariant w.some _ w.lowest,
    )

pub offset_bounds-to-base : goal.offset_bounds-to-base
offset_bounds-to-base c =
    let w = c.in-Some.ensures.steps in
    omega (
      arith,
      spreading_row _ _ _ _ _ _ _ _ _ _ _ c.requires _ _ _ _ _
          c.loop-j.invariant w.some _ w.lowest,
    )

pub bounds-to-base : goal.bounds-to-base
bounds-to-base c =
    let w = c.in-Some.ensures.steps in
    spreading_row _ _ _ _ _ _ _ _ _ _ _ c.requires _ _ _ _ _ c.loop-j.invariant w.some _ w.lowest

pub visit-found-requires : goal.visit-found-requires
visit-found-requires c =
    spreading_fits _ _ _ _ _ _ _ _ _ _ _
    c.requires _ _ _ _ _ c.loop-j.invariant

pub loop-j-preserved : goal.loop-j-preserved
loop-j-preserved c =
    let w = c.in-Some.ensures.steps in
    spreading_next _ _ _ _ _ _ _ _ _ _ _
    c.requires _ _ _ _ _ c.loop-j.invariant w.some _ w.lowest _ w.others _
    c.from-d.ensures _ _ _ _ c.visit-found.ensures

pub returns : goal.returns
returns c =
    spreading_end _ _ _ _ _ _ _ _ _ _ _ c.requires _ _ _ _ _ c.loop-j.invariant c.in-None.ensures.steps.0
