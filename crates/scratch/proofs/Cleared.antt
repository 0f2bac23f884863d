-- Scratch that is cleared after it was used.
--
--   cleared_kept    : where the rest of scratch was kept, clearing leaves it as it should be
use Prim.Native.Nat.{ℕ}
use mathlib.Core.Path.{◌≡◌, ◌∙◌, ap}
use mathlib.Core.List.{List}
use Rattle.game.specs.declared.Game.{Game}
use Rattle.scratch_clearing.specs.Clearing.{cleared}
use Rattle.scratch_clearing.proofs.Clearing.{cleared_same}
use Rattle.scratch.specs.Scratch.{scratch_length, Kept}

pub cleared_kept : (g : Game) (s t u : List ℕ) {n : ℕ} → Kept g s t → n ≡ scratch_length g → u ≡ cleared n t → u ≡ cleared (scratch_length g) s
cleared_kept g s t u K e h = h ∙ ap (λ (k : ℕ). cleared k t) e ∙ cleared_same (scratch_length g) s t K.rest
