-- `turn_row`.
use native.Mathlib.Omega.{arith}
use mathlib.Core.Path.{◌∙◌}
use Rattle.sets.proofs.Rows.{count_same}
use Rattle.barred_grow.proofs.Rows.{lowest_low, rest_low, turned_next}
use Rattle.barred_grow.proofs.turn_row.Goals as goal

pub overflow_add-at : goal.overflow_add-at
overflow_add-at c =
    let w = c.in-Some.ensures.steps in
    let low = lowest_low _ _ c.requires.0 c.loop-t.invariant.2 w.some _ w.lowest in
    omega (arith, c.requires.0, c.requires.2, low)

pub row-old-requires : goal.row-old-requires
row-old-requires c =
    let w = c.in-Some.ensures.steps in
    let low = lowest_low _ _ c.requires.0 c.loop-t.invariant.2 w.some _ w.lowest in
    omega (arith, c.requires.0, c.requires.2, c.requires.3, count_same c.loop-t.s c.args.s.now c.loop-t.invariant.0, low)

pub overflow_add-at-in-loop-t : goal.overflow_add-at-in-loop-t
overflow_add-at-in-loop-t c =
    let w = c.in-Some.ensures.steps in
    let low = lowest_low _ _ c.requires.0 c.loop-t.invariant.2 w.some _ w.lowest in
    omega (arith, c.requires.0, c.requires.2, low)

pub put-requires : goal.put-requires
put-requires c =
    let w = c.in-Some.ensures.steps in
    let low = lowest_low _ _ c.requires.0 c.loop-t.invariant.2 w.some _ w.lowest in
    omega (arith, c.requires.0, c.requires.2, c.requires.3, count_same c.loop-t.s c.args.s.now c.loop-t.invariant.0, low)

pub loop-t-preserved : goal.loop-t-preserved
loop-t-preserved c =
    let w = c.in-Some.ensures.steps in
    let low = lowest_low _ _ c.requires.0 c.loop-t.invariant.2 w.some _ w.lowest in (
      c.put.auto.l ∙ c.loop-t.invariant.0,
      rw c.put.ensures (turned_next _ _ c.in-Some.t _ _ _ low c.loop-t.invariant.1),
      rest_low _ _ c.requires.0 c.loop-t.invariant.2 w.some _ w.lowest _ w.others,
    )

pub returns : goal.returns
returns c =
    c.loop-t.invariant.1
