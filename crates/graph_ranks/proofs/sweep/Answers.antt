-- `sweep` looks at each state that is left, the lowest first.
use Rattle.graph_ranks.proofs.Search.{sweeping_below, sweeping_next, sweeping_end}
use Rattle.graph_ranks.proofs.sweep.Goals as goal

pub row_of-requires : goal.row_of-requires
row_of-requires c =
    let w = c.in-Some.ensures.steps in
    sweeping_below _ _ _ c.requires.1 _ _ _ c.loop-t.invariant w.some w.lowest

pub insert_if-more-requires : goal.insert_if-more-requires
insert_if-more-requires c =
    let w = c.in-Some.ensures.steps in
    sweeping_below _ _ _ c.requires.1 _ _ _ c.loop-t.invariant w.some w.lowest

pub loop-t-preserved : goal.loop-t-preserved
loop-t-preserved c =
    let w = c.in-Some.ensures.steps in
    sweeping_next _ _ _ c.requires.1 _ _ _ c.loop-t.invariant w.some w.lowest _ w.others
    c.requires.0 _ _
    c.row_of.ensures.1 c.meets.ensures _ c.insert_if-more.ensures

pub returns : goal.returns
returns c = sweeping_end _ _ _ _ _ c.loop-t.invariant c.in-None.ensures.steps.0
