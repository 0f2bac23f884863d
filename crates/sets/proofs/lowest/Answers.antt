-- `lowest` meets its contract.
use mathlib.Core.Path.{ap, ◌∙◌}
use Prim.Native.Nat.{ℕ, ◌+◌}
use native.Mathlib.Omega.{arith}
use Rattle.sets.specs.Words.{bits_of}
use Rattle.finite.proofs.Bounded.{least_le}
use Rattle.bits.specs.Member.{has}
use Rattle.sets.proofs.Pair.{pair_lowest_low, pair_lowest_high}
use Rattle.sets.proofs.lowest.Goals as goal

pub returns-then-x-ne0 : goal.returns-then-x-ne0
unfolding bits_of
returns-then-x-ne0 c = c.lowest.ensures ∙ pair_lowest_low _ _ (omega arith) c.if-x-ne0.true

pub overflow_add-result : goal.overflow_add-result
overflow_add-result c = omega (arith, c.lowest-2.ensures, least_le 64 (has c.args.x.high))

pub returns : goal.returns
unfolding bits_of
returns c = ap (λ (n : ℕ). 64 + n) c.lowest-2.ensures ∙ pair_lowest_high _ _ (omega arith) c.if-x-ne0.false
