-- `ranked` reads the lowest place that is left, until none is.
use native.Mathlib.Omega.{arith}
use Rattle.graph_ranks.proofs.Ranks.{checking_below, checking_next, checking_end, checking_fails}
use Rattle.graph_ranks.proofs.ranked.Goals as goal

pub overflow_add-n : goal.overflow_add-n
overflow_add-n c =
    let w = c.in-Some.ensures.steps in
    omega (arith, checking_below _ _ _ _ _ _ c.loop-t.invariant c.requires w.some w.lowest)

pub offset_bounds-table-n : goal.offset_bounds-table-n
offset_bounds-table-n c =
    let w = c.in-Some.ensures.steps in
    omega (arith, checking_below _ _ _ _ _ _ c.loop-t.invariant c.requires w.some w.lowest)

pub bounds-table-n : goal.bounds-table-n
bounds-table-n c =
    let w = c.in-Some.ensures.steps in
    omega (arith, checking_below _ _ _ _ _ _ c.loop-t.invariant c.requires w.some w.lowest)

pub returns-then-table-n : goal.returns-then-table-n
returns-then-table-n c =
    let w = c.in-Some.ensures.steps in
    checking_fails _ _ _ _ _ _ c.loop-t.invariant c.requires w.some w.lowest c.if-table-n.true

pub loop-t-preserved : goal.loop-t-preserved
loop-t-preserved c =
    let w = c.in-Some.ensures.steps in
    checking_next _ _ _ _ _ _ c.loop-t.invariant c.requires w.some w.lowest _ w.others
    c.if-table-n.false

pub returns : goal.returns
returns c = checking_end _ _ _ _ _ c.loop-t.invariant c.in-None.ensures.steps.0
