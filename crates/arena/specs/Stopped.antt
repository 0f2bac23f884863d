-- States without a move: "As before the winner's table is handed over: its rounds are right and its side never gets stuck first." (M-102)
--
--   Replied A T c j              == the controller's table has a reply to the input j at c: a turn makes a configuration with that input
--   ControllerNeverStopped A T   == wherever a walk of the table from a first configuration has come, the panel has no move or the table goes on
--   Asked A P c                  == the panel's table makes a move at c
--   EnvironmentNeverStopped A P  == wherever one has come, the table has a move, and the system no reply to it or the play goes on
--   NeverStopped A v             == that of the table handed over
use Rattle.std.specs.Prelude.{ℕ, ◌≡◌, true, false, ◌⊎◌}
use Rattle.arena.specs.Arena.{Arena}
use Rattle.arena.specs.Table.{Names, Some, ControllerTable, EnvironmentTable}
use Rattle.arena.specs.Play.{Configuration, ControllerFirst, ControllerTurn, EnvironmentFirst, EnvironmentTurn, Reachable}
use Rattle.arena.specs.Win.{Outcome, system, environment}

pub record Replied (A : Arena) (T : ControllerTable) (c : Configuration) (j : ℕ) : Type 0 where
  pub next : Configuration
  pub input : next.input ≡ j
  pub turn : ControllerTurn A T c next

-- SPEC 3.6
pub record ControllerNeverStopped (A : Arena) (T : ControllerTable) : Type 0 where
  pub begins : (i : ℕ) → A.in_initial i ≡ true → (c : Configuration) × ControllerFirst A T c × (c.input ≡ i)
  -- "A play that stops for want of an input move is won": either that, or the table has a reply to every input move, and there is one (SPEC 3.2)
  pub onward : (c : Configuration) → Reachable (ControllerFirst A T) (ControllerTurn A T) c
      → ((j : ℕ) → A.in_move c.input j ≡ false)
      ⊎ (((j : ℕ) × (A.in_move c.input j ≡ true)) × ((j : ℕ) → A.in_move c.input j ≡ true → Replied A T c j))
  -- so where no turn goes on, it is the panel that is stopped
  pub other : (c : Configuration) → Reachable (ControllerFirst A T) (ControllerTurn A T) c → ((d : Configuration) → ControllerTurn A T c d → ⊥)
      → (j : ℕ) → A.in_move c.input j ≡ false

pub record Asked (A : Arena) (P : EnvironmentTable) (c : Configuration) : Type 0 where
  pub memory : ℕ
  pub input : ℕ
  pub names : Names P.memories (A.in_move c.input) (P.step c.memory c.input c.output) memory input

-- SPEC 3.6
pub record EnvironmentNeverStopped (A : Arena) (P : EnvironmentTable) : Type 0 where
  pub begins : Some P.memories A.in_initial P.start
  -- "and one that stops for want of an output move is lost": the table has a move, and the system has no reply to it, or a turn goes on (SPEC 3.2)
  pub onward : (c : Configuration) → Reachable (EnvironmentFirst A P) (EnvironmentTurn A P) c
      → (a : Asked A P c) × (((p : ℕ) → A.reply a.input c.output p ≡ false) ⊎ ((d : Configuration) × EnvironmentTurn A P c d))
  -- so where no turn goes on, it is the system that is stopped
  pub other : (c : Configuration) → Reachable (EnvironmentFirst A P) (EnvironmentTurn A P) c → ((d : Configuration) → EnvironmentTurn A P c d → ⊥)
      → (a : Asked A P c) × ((p : ℕ) → A.reply a.input c.output p ≡ false)

-- SPEC 3.6
unfoldable pub NeverStopped : Arena → Outcome → Type 0
NeverStopped A (system T) = ControllerNeverStopped A T
NeverStopped A (environment P) = EnvironmentNeverStopped A P
