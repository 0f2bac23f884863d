-- `close` sweeps until a sweep adds nothing. Before each sweep the rows are at the stage of the sweeps that were counted, which are those that ran.
use mathlib.Core.Path.{refl, ◌∙◌}
use Rattle.sets.proofs.Rows.{count_same, sets_long}
use Rattle.graph_closure.proofs.Counting.{graph_given, ran_given, counted_start, counted_next, counted_few, counted_end}
use native.Mathlib.Omega.{arith}
use Rattle.graph_closure.proofs.close.Goals as goal

pub loop-init : goal.loop-init
loop-init c =
    let l = c.args.rows.now in
    (omega arith, refl, λ h G. counted_start _ _ (c.start.ensures h G) (omega (arith, sets_long l, G.states)))

pub sweep-requires : goal.sweep-requires
sweep-requires c =
    let a = c.args in
    let some = graph_given a.n a.moves.now in (
      omega arith,
      omega (arith, count_same c.loop.rows a.rows.now (c.loop.invariant.1 ∙ c.start.auto.rows)),
      omega (arith, (c.loop.invariant.2 some.0 some.1).few, some.1.states),
    )

pub loop-smaller : goal.loop-smaller
loop-smaller c =
    let a = c.args in
    let some = graph_given a.n a.moves.now in
    let few = counted_few (c.loop.invariant.2 some.0 some.1) (ran_given some.1 c.sweep.ensures) c.loop-test.true in
    omega (arith, few, some.1.states, c.sweep.ensures.count)

pub loop-preserved : goal.loop-preserved
loop-preserved c =
    let k = c.loop.invariant in
    (omega arith, c.sweep.auto.rows ∙ k.1, λ h G. counted_next (k.2 h G) (ran_given G c.sweep.ensures) c.loop-test.true)

pub shape_of-rows : goal.shape_of-rows
shape_of-rows c =
    c.sweep.auto.rows ∙ c.loop.invariant.1 ∙ c.start.auto.rows

pub returns : goal.returns
returns c =
    let r = c.args.rows.now in
    λ h G. counted_end (c.loop.invariant.2 h G) (ran_given G c.sweep.ensures) _ (c.start.ensures h G) (omega (arith, sets_long r, G.states))
    c.loop-test.false
