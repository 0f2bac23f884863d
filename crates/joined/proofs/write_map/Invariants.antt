-- `write_map`.
use Prim.Native.Nat.{ℕ, ◌^◌, ◌≤◌, ◌<◌}
use mathlib.Core.Path.{◌≡◌}
use mathlib.Core.List.{◌++◌}
use lib.ListN.{length, get_or, drop}
use Rattle.finite.specs.Tabulate.{tabulate}
use Rattle.sets.specs.Words.{sets_in}
use Rattle.map_marks.specs.Marks.{map_row}
use Rattle.joined.proofs.write_map.Given as goal

abbrev pub invariant-loop-i : goal.invariant-loop-i
invariant-loop-i l =
    (l.i ≤ l.fn.g.input.states) × (length l.map ≡ length l.initial.map)
    × (sets_in l.map ≡ tabulate l.i (map_row l.fn.g) ++ drop l.i (sets_in l.initial.map)) × ((k : ℕ) → get_or l.map k 0 < 2 ^ 64)
