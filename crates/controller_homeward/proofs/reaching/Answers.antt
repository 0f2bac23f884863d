-- `reaching` collects the outputs below o.
use mathlib.Core.Path.{◌∙◌}
use Rattle.bits.proofs.Collect.{collect_none, collect_next, collect_end}
use Rattle.controller_homeward.proofs.Homeward.{reach_at}
use native.Mathlib.Omega.{arith}
use Rattle.controller_homeward.proofs.reaching.Goals as goal

pub loop-o-init : goal.loop-o-init
loop-o-init c = (omega arith, c.empty-x.ensures.1 ∙ collect_none _)

pub loop-o-preserved : goal.loop-o-preserved
loop-o-preserved c =
    let test = reach_at _ _ _ _ _ c.out_reach-reach.ensures c.member.ensures in
    (omega arith, collect_next _ c.loop-o.o _ _ _ c.loop-o.invariant.1 test c.insert_if-x.ensures)

pub returns : goal.returns
returns c = collect_end _ c.loop-o.o _ _ (omega arith) (omega arith) c.loop-o.invariant.1
