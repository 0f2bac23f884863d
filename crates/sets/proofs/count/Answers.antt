-- `count` meets its contract.
use mathlib.Core.Path.{sym, ap₂, ◌∙◌}
use Prim.Native.Nat.{ℕ, ◌+◌}
use native.Mathlib.Omega.{arith}
use Rattle.sets.specs.Words.{bits_of}
use Rattle.finite.proofs.Bounded.{count_le}
use Rattle.bits.specs.Member.{has}
use Rattle.sets.proofs.Pair.{pair_count}
use Rattle.sets.proofs.count.Goals as goal

pub overflow_add-result : goal.overflow_add-result
overflow_add-result c =
    let x = c.args.x in
    omega (arith, c.count.ensures, c.count-2.ensures, count_le 64 (has x.low), count_le 64 (has x.high))

pub returns : goal.returns
unfolding bits_of
returns c = ap₂ (λ (a b : ℕ). a + b) c.count.ensures c.count-2.ensures ∙ sym (pair_count _ _ (omega arith))
