-- `within` meets its contract.
use mathlib.Core.Path.{◌∙◌}
use native.Mathlib.Omega.{arith}
use Rattle.sets.specs.Words.{bits_of}
use Rattle.sets.proofs.Pair.{pair_within_low, pair_within_high, pair_within_not}
use Rattle.sets.proofs.within.Goals as goal

pub returns-then-x-ne0 : goal.returns-then-x-ne0
unfolding bits_of
returns-then-x-ne0 c = pair_within_not _ _ (omega arith) _ c.if-n-lt64.true c.if-x-ne0.true

pub returns-then-n-lt64 : goal.returns-then-n-lt64
unfolding bits_of
returns-then-n-lt64 c = c.within.ensures ∙ pair_within_low _ _ (omega arith) _ c.if-n-lt64.true c.if-x-ne0.false

pub returns : goal.returns
unfolding bits_of
returns c = c.within-2.ensures ∙ pair_within_high _ _ (omega arith) _ c.if-n-lt64.false
