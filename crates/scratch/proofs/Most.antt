-- No game asks for more scratch than a game of the most states.
use Prim.Native.Nat.{◌≤◌}
use mathlib.Core.Path.{◌≡◌}
use native.Mathlib.Omega.{arith}
use Rattle.game.specs.declared.Game.{Game}
use Rattle.game.specs.Acceptance.{accepted, acceptance}
use Rattle.game.proofs.Laws.{accepted_fits}
use Rattle.scratch.specs.Scratch.{scratch_length, most_scratch}

pub most_scratch_lem : (g : Game) → acceptance g ≡ accepted → scratch_length g ≤ most_scratch
most_scratch_lem g a = let F = accepted_fits g a in omega (arith, F.input.most, F.output.most)
