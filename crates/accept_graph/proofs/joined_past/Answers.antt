-- `joined_past` goes through the rows.
use native.Mathlib.Omega.{arith}
use Rattle.accept_graph.proofs.Past.{past_start, past_next, past_end}
use Rattle.accept_graph.proofs.joined_past.Goals as goal

pub loop-s-init : goal.loop-s-init
loop-s-init c = (omega arith, past_start _ _ _ c.empty-x.ensures.1)

pub row-requires : goal.row-requires
row-requires c = omega (arith, c.requires)

pub loop-s-preserved : goal.loop-s-preserved
loop-s-preserved c =
    let i = c.loop-s.invariant in
    (omega arith, past_next _ _ _ _ _ _ i.1 i.0 c.loop-s-test.true c.row.ensures c.union-x.ensures)

pub returns : goal.returns
returns c = past_end _ _ c.loop-s.s _ c.loop-s-test.false c.loop-s.invariant.1
