-- `unmark` meets its contract.
use Rattle.checker_search.proofs.Ways.{unmarking_start, unmarking_next, unmarking_end}
use native.Mathlib.Omega.{arith}
use Rattle.checker_search.proofs.unmark.Goals as goal

pub loop-k-init : goal.loop-k-init
loop-k-init c = unmarking_start _ _ _ c.requires

pub loop-k-preserved : goal.loop-k-preserved
loop-k-preserved c =
    unmarking_next _ _ _ _ c.loop-k.invariant c.loop-k-test.true _ c.from-a.ensures (omega
    (arith, c.from-a.ensures, c.requires.inside _ c.loop-k-test.true))

pub returns : goal.returns
returns c = unmarking_end _ _ _ _ c.loop-k.invariant c.loop-k-test.false
