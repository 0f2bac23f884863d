-- `attempt` meets its contract.
use Rattle.checker_rounds.proofs.Attempts.{Pivot}
use Rattle.checker_search.specs.Turns.{marked}
use Rattle.finite.specs.Bounded.{count}
use mathlib.Core.Path.{◌≡◌}
use Rattle.checker_rounds.proofs.attempt.Given as goal

abbrev pub invariant-loop-mark : goal.invariant-loop-mark
invariant-loop-mark l =
    (l.initial.kept ≡ l.kept) × Pivot l.inputs l.places l.moves l.to l.kept l.mark l.queue l.from l.way l.walk l.pivot l.found

abbrev pub decreases-loop-mark : goal.decreases-loop-mark
decreases-loop-mark l = count l.places (marked l.mark)
