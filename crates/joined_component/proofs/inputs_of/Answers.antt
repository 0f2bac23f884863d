-- `inputs_of`.
use mathlib.Core.Path.{◌∙◌}
use native.Mathlib.Omega.{arith}
use Rattle.bits.proofs.Collect.{collect_none, collect_next, collect_end}
use Rattle.joined_component.proofs.Tests.{inhabited}
use Rattle.joined_component.proofs.inputs_of.Goals as goal

pub loop-i-init : goal.loop-i-init
loop-i-init c = (omega arith, collect_none _)

pub insert_if-c-requires : goal.insert_if-c-requires
insert_if-c-requires c = omega (arith, c.requires.0.inputs)

pub loop-i-preserved : goal.loop-i-preserved
loop-i-preserved c = (
  omega arith,
  collect_next _ c.loop-i.i _ _ _ c.loop-i.invariant.1 (inhabited _ _ c.requires.2 c.loop-i.i (omega arith)) c.insert_if-c.ensures,
)

pub returns : goal.returns
returns c =
    c.of_word.ensures ∙ collect_end _ c.loop-i.i _ _ (omega arith) (omega arith) c.loop-i.invariant.1
