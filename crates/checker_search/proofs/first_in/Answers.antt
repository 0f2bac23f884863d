-- `first_in` meets its contract.
use Rattle.checker_search.proofs.Ways.{first_in_on, first_in_here}
use native.Mathlib.Omega.{arith}
use Rattle.checker_search.proofs.first_in.Goals as goal

pub loop-k-init : goal.loop-k-init
loop-k-init c = (omega arith, λ i b. absurd (omega (arith, b)))

pub returns-then-member : goal.returns-then-member
returns-then-member c =
    first_in_here _ _ _ _ _ _ c.loop-k-test.true c.from.ensures c.member.ensures
    c.if-member.true

pub loop-k-preserved : goal.loop-k-preserved
loop-k-preserved c = (
  omega arith,
  first_in_on _ c.args.queue.now 0 _ _ _
      c.loop-k.invariant.1 c.from.ensures c.member.ensures c.if-member.false,
)

pub returns : goal.returns
returns c = λ k b. c.loop-k.invariant.1 k (omega (arith, b, c.loop-k-test.false))
