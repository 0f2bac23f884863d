-- `crossed` joins the places that the moves of each state cross.
use mathlib.Core.Path.{◌≡◌}
use native.Mathlib.Omega.{arith}
use Rattle.sets.specs.Words.{sets_in}
use Rattle.graph_ranks.proofs.Search.{crossed_start, crossed_next}
use Rattle.graph_ranks.proofs.crossed.Goals as goal

pub loop-t-init : goal.loop-t-init
loop-t-init c = (omega arith, crossed_start (sets_in c.args.moves.now) _)

pub row_of-requires : goal.row_of-requires
row_of-requires c =
    omega (arith, c.requires, c.loop-t-test.true)

pub span-requires : goal.span-requires
span-requires c =
    omega (arith, c.requires, c.loop-t-test.true)

pub loop-t-smaller : goal.loop-t-smaller
loop-t-smaller c =
    omega (arith, c.loop-t-test.true)

pub loop-t-preserved : goal.loop-t-preserved
loop-t-preserved c =
    let rows = sets_in c.args.moves.now in
    let next = crossed_next rows c.loop-t.t _ _ _ _ c.loop-t.invariant.1 c.row_of.ensures.1 c.span.ensures c.union-found.ensures in
    (omega (arith, c.loop-t-test.true), next)

pub returns : goal.returns
returns c =
    let e : c.loop-t.t ≡ c.args.n = omega (arith, c.loop-t.invariant.0, c.loop-t-test.false) in
    rw e at c.loop-t.invariant.1
