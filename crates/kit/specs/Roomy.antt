-- What is tested before the solver begins.
--
--   Roomy k g t s c n    == k is accepted, g its game, t the length of its table; s words of scratch do, c entries for the controller and n for the kit
use Rattle.std.specs.Prelude.{ℕ, ◌≤◌, ◌≡◌}
use Rattle.game.specs.declared.Game.{Game}
use Rattle.scratch.specs.Scratch.{scratch_length}
use Rattle.solver.specs.Promise.{controller_length}
use Rattle.kit_drives.specs.declared.Kit.{Kit}
use Rattle.kit_drives.specs.Drive.{game_from}
use Rattle.kit_drives.specs.Acceptance.{kit_acceptance}
use Rattle.kit_rows.specs.Rows.{kit_length}
use Rattle.game.specs.Acceptance.{accepted}

pub record Roomy (k : Kit) (g : Game) (t s c n : ℕ) : Type 0 where
  pub accepted : kit_acceptance k ≡ accepted
  pub game : g ≡ game_from k
  pub table : t ≡ kit_length k
  pub scratch : scratch_length (game_from k) ≤ s
  pub controller : controller_length (game_from k) ≤ c
  pub room : kit_length k ≤ n
