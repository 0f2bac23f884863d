-- `row_count` meets its contract.
use native.Mathlib.Omega.{arith}
use Prim.Native.Nat.{ℕ}
use mathlib.Core.Path.{◌∙◌, ap}
use Rattle.finite.specs.Bounded.{count}
use Rattle.bits.specs.Member.{has}
use Rattle.sets.specs.Words.{bits_of}
use Rattle.catalogue_verdict.proofs.Counting.{count_start, count_in, count_out}
use Rattle.catalogue_verdict.proofs.row_count.Goals as goal

pub loop-s-init : goal.loop-s-init
loop-s-init c = (omega arith, omega arith, c.requires, count_start _ 0)

pub loop-s-preserved-then-member : goal.loop-s-preserved-then-member
loop-s-preserved-then-member c = (
  omega arith,
  omega arith,
  c.loop-s.invariant.2,
  count_in _ _ c.loop-s.invariant.3 c.member.ensures
      c.if-member.true,
)

pub loop-s-preserved : goal.loop-s-preserved
loop-s-preserved c = (
  omega arith,
  omega arith,
  c.loop-s.invariant.2,
  count_out _ _ c.loop-s.invariant.3
      c.member.ensures c.if-member.false,
)

pub returns : goal.returns
returns c = c.loop-s.invariant.3 ∙ ap (λ (k : ℕ). count k (has (bits_of c.args.x))) (omega arith)
