-- `cut` meets its contract.
use Rattle.checker_rounds.proofs.Cuts.{cutting_start, cutting_next, cutting_end}
use native.Mathlib.Omega.{arith}
use Rattle.checker_rounds.proofs.cut.Goals as goal

pub loop-k-init : goal.loop-k-init
loop-k-init c = cutting_start _ _ _ c.args.u c.requires

pub loop-k-preserved : goal.loop-k-preserved
loop-k-preserved c =
    cutting_next _ _ _ _ c.requires _ _ c.loop-k.invariant c.loop-k-test.true _
    c.from-a.ensures (omega (arith, c.from-a.ensures, c.requires.inside _ c.loop-k-test.true))

pub returns : goal.returns
returns c = cutting_end _ _ _ _ c.requires _ _ c.loop-k.invariant c.loop-k-test.false
