-- `first_at` meets its contract.
use Rattle.checker_search.proofs.Ways.{first_at_on, first_at_here}
use native.Mathlib.Omega.{arith}
use Rattle.checker_search.proofs.first_at.Goals as goal

pub loop-k-init : goal.loop-k-init
loop-k-init c = (omega arith, λ i b. absurd (omega (arith, b)))

pub returns-then-from-v : goal.returns-then-from-v
returns-then-from-v c = first_at_here _ _ _ _ _ c.loop-k-test.true c.from.ensures c.if-from-v.true

pub loop-k-preserved : goal.loop-k-preserved
loop-k-preserved c = (
  omega arith,
  first_at_on c.args.queue.now 0 _ _ _ c.loop-k.invariant.1
      c.from.ensures c.if-from-v.false,
)

pub returns : goal.returns
returns c = λ k b. c.loop-k.invariant.1 k (omega (arith, b, c.loop-k-test.false))
