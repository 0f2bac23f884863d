-- `lay`. Invariant: whatever rows and initial sets the board had before the loop it has, and the first r requirements.
use Prim.Native.Nat.{ℕ, ◌-◌, ◌≤◌}
use mathlib.Core.Path.{◌≡◌}
use mathlib.Core.List.{List}
use lib.ListN.{length}
use Rattle.sets.specs.declared.Set.{Set}
use Rattle.board.specs.Board.{board_words}
use Rattle.board.proofs.Laying.{Upto}
use Rattle.board.proofs.lay.Given as goal

abbrev pub invariant-loop-r : goal.invariant-loop-r
invariant-loop-r l =
    (l.r ≤ 8) × (length l.b ≡ board_words)
    × ((ins outs : List ℕ) (x y : Set) → Upto 0 ins outs x y l.requirements l.initial.b → Upto l.r ins outs x y l.requirements l.b)
