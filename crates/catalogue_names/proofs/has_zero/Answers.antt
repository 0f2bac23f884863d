-- `has_zero` meets its contract.
use native.Mathlib.Omega.{arith}
use mathlib.Core.Path.{refl, sym, ◌∙◌}
use Rattle.catalogue_names.proofs.Splitting.{zero_here, zero_later, zero_nowhere}
use Rattle.catalogue_names.proofs.has_zero.Goals as goal

pub loop-b-init : goal.loop-b-init
loop-b-init c = (omega arith, refl)

pub returns-then-b-eq0 : goal.returns-then-b-eq0
returns-then-b-eq0 c = sym (c.loop-b.invariant.1 ∙ zero_here _ _ c.loop-b-test.true c.if-b-eq0.true)

pub loop-b-preserved : goal.loop-b-preserved
loop-b-preserved c = (omega arith, c.loop-b.invariant.1 ∙ zero_later _ _ c.loop-b-test.true c.if-b-eq0.false)

pub returns : goal.returns
returns c = sym (c.loop-b.invariant.1 ∙ zero_nowhere _ _ c.loop-b-test.false)
