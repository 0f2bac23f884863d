-- A row of the map, read from scratch.
use Prim.Native.Nat.{ℕ, ◌<◌}
use mathlib.Core.Path.{◌≡◌, ◌∙◌}
use mathlib.Core.List.{List}
use Rattle.bits.specs.Member.{pack}
use Rattle.sets.specs.Words.{sets_in}
use Rattle.game.specs.declared.Game.{Game}
use Rattle.scratch.specs.Stored.{won_at, Ready}
use Rattle.scratch.proofs.Read.{ready_row}
use Rattle.map_marks.specs.Marks.{map_row}

pub map_row_read : {g : Game} {s : List ℕ} {c : ℕ} → Ready g s c → (i : ℕ) → i < g.input.states → {r : ℕ}
    → r ≡ pack g.output.states (won_at (sets_in s) g.input.states c i) → r ≡ map_row g i
unfolding map_row
map_row_read R i a e = e ∙ ready_row R i a
