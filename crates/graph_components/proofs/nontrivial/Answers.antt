-- `nontrivial` collects the states with a move inside their component.
use mathlib.Core.Path.{◌∙◌}
use Rattle.bits.proofs.Collect.{collect_none, collect_next, collect_end}
use Rattle.graph_components.proofs.Steps.{nontrivial_at_lem}
use native.Mathlib.Omega.{arith}
use Rattle.graph_components.proofs.nontrivial.Goals as goal

pub loop-s-init : goal.loop-s-init
loop-s-init c = (omega arith, c.empty-c.ensures.1 ∙ collect_none _)

pub loop-s-preserved : goal.loop-s-preserved
loop-s-preserved c = (
  omega arith,
  collect_next _ c.loop-s.s _ _ _ c.loop-s.invariant.1
      (nontrivial_at_lem _ _ _ _ _ c.row-row.ensures c.comes_back.ensures) c.insert_if-c.ensures,
)

pub returns : goal.returns
returns c = collect_end _ c.loop-s.s _ _ (omega arith) (omega arith) c.loop-s.invariant.1
