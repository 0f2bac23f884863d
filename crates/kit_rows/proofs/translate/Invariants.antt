-- `translate` goes through the old modes.
use Prim.Native.Nat.{◌≤◌}
use Rattle.kit_rows.specs.Writing.{commands_of, Said}
use Rattle.kit_rows.proofs.translate.Given as goal

abbrev pub invariant-loop-j : goal.invariant-loop-j
invariant-loop-j l =
    (l.j ≤ l.modes) × Said (commands_of l.new l.from.commands l.from.mode) l.controller l.base l.j l.initial.kept l.kept
