-- Pins: what demand 3 says. The table handed over wins, and the other side has no winning table.
use Rattle.arena.specs.Arena.{Arena}
use Rattle.arena.specs.Table.{ControllerTable, EnvironmentTable}
use Rattle.arena.specs.Win.{ControllerWins, EnvironmentWins, system, environment, DemandThree}
use Rattle.arena.proofs.Fork.{fork, copy, copy_wins}
use Rattle.arena.proofs.Nones.{idle, idle_loses}

module _ (A : Arena) (T : ControllerTable) where
  pub system_holds : DemandThree A (system T) → ControllerWins A T
  unfolding DemandThree
  system_holds d = d.0

  -- an answer that names the system rules out a winning table of the environment, of any size
  pub system_alone : DemandThree A (system T) → (P : EnvironmentTable) → EnvironmentWins A P → ⊥
  unfolding DemandThree
  system_alone d = d.1

module _ (A : Arena) (P : EnvironmentTable) where
  pub environment_holds : DemandThree A (environment P) → EnvironmentWins A P
  unfolding DemandThree
  environment_holds d = d.0

  environment_alone : DemandThree A (environment P) → (T : ControllerTable) → ControllerWins A T → ⊥
  unfolding DemandThree
  environment_alone d = d.1

-- a controller with honest starts and rows of none is turned down
pub idle_refused : DemandThree fork (system idle) → ⊥
idle_refused d = idle_loses (system_holds fork idle d)

-- a constant "environment wins" is turned down, whatever table comes with it
pub environment_refused : (P : EnvironmentTable) → DemandThree fork (environment P) → ⊥
environment_refused P d = environment_alone fork P d copy copy_wins
