-- `fill_map` writes one row after the other.
use Prim.Native.Nat.{ℕ, ◌^◌, ◌≤◌, ◌<◌}
use mathlib.Core.Path.{◌≡◌}
use mathlib.Core.List.{◌++◌}
use lib.ListN.{length, get_or, drop}
use Rattle.finite.specs.Tabulate.{tabulate}
use Rattle.sets.specs.Words.{sets_in}
use Rattle.board.specs.Board.{game_on}
use Rattle.scratch.specs.Stored.{WonKept}
use Rattle.map_marks.specs.Marks.{map_row}
use Rattle.map.proofs.fill_map.Given as goal

abbrev pub ghost-map_row : goal.ghost-map_row
ghost-map_row g a = game_on a.z a.b.now

abbrev pub invariant-loop-i : goal.invariant-loop-i
invariant-loop-i g l =
    (l.i ≤ l.z.inputs) × (length l.map ≡ length l.initial.map)
    × (sets_in l.map ≡ tabulate l.i (map_row (game_on l.z l.b)) ++ drop l.i (sets_in l.initial.map)) × ((e : ℕ) → get_or l.map e 0 < 2 ^ 64)
    × WonKept (sets_in l.s) l.z.inputs l.z.outputs l.k
