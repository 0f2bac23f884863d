-- Who wins.
--
--   ControllerWins A T, EnvironmentWins A P    == the table wins
--   Controller A T                             == the table answers wherever a reply is left
--   Keeps A T c                                == the controller started at the configuration c makes all reachable rounds meet all requirements
--   Won A i o                                  == the position is won
--   SystemWins A                               == the system wins the game
--   Outcome, DemandThree A v                   == demand 3
use Rattle.std.specs.Prelude.{ℕ, ◌<◌, ◌≡◌, true}
use Rattle.finite.specs.Lists.{all_of, any_of}
use Rattle.arena.specs.Arena.{Arena}
use Rattle.arena.specs.Table.{Some, ControllerTable, EnvironmentTable}
use Rattle.arena.specs.Play.{
  Configuration,
  ControllerFirst,
  ControllerTurn,
  EnvironmentFirst,
  EnvironmentTurn,
  Reachable,
  Cycle,
  configurations,
  meets,
  breaks,
}

-- "A controller's table wins when its start for each initial input, and its step for every input move from a reachable configuration, is not none,
-- and every reachable round meets all requirements" (SPEC 3.4)
pub record ControllerWins (A : Arena) (T : ControllerTable) : Type 0 where
  pub starts : (i : ℕ) → A.in_initial i ≡ true → Some T.memories (A.opening i) (T.start i)
  pub steps : (c : Configuration) → Reachable (ControllerFirst A T) (ControllerTurn A T) c → (j : ℕ) → A.in_move c.input j ≡ true
      → Some T.memories (A.reply j c.output) (T.step c.memory c.output j)
  pub rounds : (r : Cycle (ControllerFirst A T) (ControllerTurn A T)) → all_of (λ q. meets q (configurations _ _ r)) A.requirements ≡ true

-- "a panel's when its start, and its step at every reachable configuration, is not none, and every reachable round breaks one." (SPEC 3.4)
pub record EnvironmentWins (A : Arena) (P : EnvironmentTable) : Type 0 where
  pub starts : Some P.memories A.in_initial P.start
  pub steps : (c : Configuration) → Reachable (EnvironmentFirst A P) (EnvironmentTurn A P) c
      → Some P.memories (A.in_move c.input) (P.step c.memory c.input c.output)
  pub rounds : (r : Cycle (EnvironmentFirst A P) (EnvironmentTurn A P)) → any_of (λ q. breaks q (configurations _ _ r)) A.requirements ≡ true

-- A controller is a table whose start and step are none only where the system has no move left: "a start gives memory and initial output for each
-- initial input; a step gives memory and output move from memory, output and new input." (SPEC 3.1)
pub record Controller (A : Arena) (T : ControllerTable) : Type 0 where
  pub starts : (i o : ℕ) → A.in_initial i ≡ true → A.opening i o ≡ true → Some T.memories (A.opening i) (T.start i)
  pub steps : (m o j p : ℕ) → m < T.memories → A.reply j o p ≡ true → Some T.memories (A.reply j o) (T.step m o j)

-- The controller started at a configuration: "that position with one memory value" is the one first configuration. All reachable rounds meet all
-- requirements, and it is never left without a reply: "a controller must also never be stopped that way" (M-102). (SPEC 3.1)
pub record Keeps (A : Arena) (T : ControllerTable) (c : Configuration) : Type 0 where
  pub memory : c.memory < T.memories
  pub steps : (d : Configuration) → Reachable (◌≡◌ c) (ControllerTurn A T) d → (j : ℕ) → A.in_move d.input j ≡ true
      → Some T.memories (A.reply j d.output) (T.step d.memory d.output j)
  pub rounds : (r : Cycle (◌≡◌ c) (ControllerTurn A T)) → all_of (λ q. meets q (configurations _ _ r)) A.requirements ≡ true

-- "A position is won when some controller started there makes all reachable rounds meet all requirements." (SPEC 3.1)
pub record Won (A : Arena) (i o : ℕ) : Type 0 where
  pub table : ControllerTable
  pub controller : Controller A table
  pub memory : ℕ
  pub keeps : Keeps A table (record { input = i; output = o; memory = memory })

-- "The system wins the game when each initial input has an initial output making a won position." (SPEC 3.3)
pub record Opening (A : Arena) (i : ℕ) : Type 0 where
  pub output : ℕ
  pub allowed : A.opening i output ≡ true
  pub won : Won A i output

-- SPEC 3.3
pub record SystemWins (A : Arena) : Type 0 where
  pub openings : (i : ℕ) → A.in_initial i ≡ true → Opening A i

-- The side that is named, with the table that is handed over for it.
pub data Outcome : Type 0 where
  system : ControllerTable → Outcome
  environment : EnvironmentTable → Outcome

-- Demand 3 of one game: the table handed over wins for the side named, and no table of any finite size wins for the other, so exactly one side
-- holds a winning table. "Demand 3 is a single claim about all tables and all walks of a game, not one for each turn; won positions and components
-- have no part in it." (SPEC 3.5)
unfoldable pub DemandThree : Arena → Outcome → Type 0
DemandThree A (system T) = ControllerWins A T × ((P : EnvironmentTable) → EnvironmentWins A P → ⊥)
DemandThree A (environment P) = EnvironmentWins A P × ((T : ControllerTable) → ControllerWins A T → ⊥)
