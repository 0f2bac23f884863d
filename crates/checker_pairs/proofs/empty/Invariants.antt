-- `empty` meets its contract.
use Prim.Native.Nat.{◌≤◌}
use Rattle.checker_pairs.proofs.Emptying.{Emptying}
use Rattle.checker_search.specs.Turns.{marked}
use Rattle.finite.specs.Bounded.{count}
use Rattle.checker_pairs.proofs.empty.Given as goal

abbrev pub invariant-loop-v : goal.invariant-loop-v
invariant-loop-v l =
    (l.k ≤ 4096) × Emptying l.inputs l.places l.moves l.to l.q l.fn.kept l.kept l.mark l.queue l.from l.way l.walk l.found l.v

abbrev pub invariant-loop-kept : goal.invariant-loop-kept
invariant-loop-kept l =
    (l.k ≤ 4096) × Emptying l.inputs l.places l.moves l.to l.q l.fn.kept l.kept l.mark l.queue l.from l.way l.walk l.found l.v

abbrev pub decreases-loop-kept : goal.decreases-loop-kept
decreases-loop-kept l = count l.places (marked l.kept)
