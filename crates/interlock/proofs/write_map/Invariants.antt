-- `write_map`.
use Prim.Native.Nat.{ℕ, ◌^◌, ◌≤◌, ◌<◌}
use mathlib.Core.Path.{◌≡◌}
use mathlib.Core.List.{◌++◌}
use lib.ListN.{length, get_or, drop}
use Rattle.finite.specs.Tabulate.{tabulate}
use Rattle.sets.specs.Words.{sets_in}
use Rattle.interlock.proofs.write_map.Given as goal

abbrev pub invariant-loop-i : goal.invariant-loop-i
invariant-loop-i l =
    (l.i ≤ l.fn.g.input.states) × (length l.map ≡ length l.initial.map)
    × (sets_in l.map ≡ tabulate l.i (λ k. get_or (sets_in l.s) k 0) ++ drop l.i (sets_in l.initial.map))
    × ((k : ℕ) → get_or l.map k 0 < 2 ^ 64)
