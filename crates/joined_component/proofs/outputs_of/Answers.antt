-- `outputs_of`.
use Prim.Native.Nat.{ℕ}
use mathlib.Core.Path.{◌∙◌, ap}
use native.Mathlib.Omega.{arith}
use Rattle.bits.specs.Member.{has}
use Rattle.joined_component.proofs.Tests.{outputs_start, outputs_more, outputs_end}
use Rattle.joined_component.proofs.outputs_of.Goals as goal

pub loop-i-init : goal.loop-i-init
loop-i-init c = (omega arith, outputs_start _ _)

pub loop-i-preserved : goal.loop-i-preserved
loop-i-preserved c =
    (omega arith, outputs_more _ _ c.loop-i.i _ _ (omega arith) c.loop-i.invariant.1 c.union-c.ensures)

pub returns : goal.returns
returns c =
    λ o. ap (λ (x : ℕ). has x o) c.of_word.ensures ∙ outputs_end _ _ c.loop-i.i _ (omega arith) (omega arith) c.loop-i.invariant.1 o
