-- `advise` meets its contract.
use mathlib.Core.Path.{sym, ◌∙◌}
use native.Mathlib.Omega.{arith}
use Rattle.checker_order.proofs.advise.Goals as goal

pub slice_bounds-finish-end : goal.slice_bounds-finish-end
slice_bounds-finish-end c =
    sym c.loop-v.invariant.1

pub finish-n-requires : goal.finish-n-requires
finish-n-requires c =
    let P = c.requires in
    (P.0, P.1, P.2, omega (arith, c.loop-v.invariant.1), c.loop-v.invariant.0, omega (arith, c.loop-v-test.true, P.2))

pub loop-v-preserved : goal.loop-v-preserved
loop-v-preserved c =
    (c.finish-n.ensures, c.finish-n.auto.unseen ∙ c.loop-v.invariant.1)
