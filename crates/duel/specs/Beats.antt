-- An environment's table started at a configuration.
--
--   Beats A P c    == the environment's table started at the configuration c breaks a requirement in every reachable cycle
use Rattle.std.specs.Prelude.{◌<◌, ◌≡◌, true}
use Rattle.finite.specs.Lists.{any_of}
use Rattle.arena.specs.Arena.{Arena}
use Rattle.arena.specs.Table.{Some, EnvironmentTable}
use Rattle.arena.specs.Play.{Configuration, EnvironmentTurn, Reachable, Cycle, configurations, breaks}

-- The counterpart of Keeps: the position with one memory value is the one first configuration, the table is never without a move, and every
-- reachable cycle breaks a requirement.
pub record Beats (A : Arena) (P : EnvironmentTable) (c : Configuration) : Type 0 where
  pub memory : c.memory < P.memories
  pub steps : (d : Configuration) → Reachable (◌≡◌ c) (EnvironmentTurn A P) d
      → Some P.memories (A.in_move d.input) (P.step d.memory d.input d.output)
  pub rounds : (r : Cycle (◌≡◌ c) (EnvironmentTurn A P)) → any_of (λ q. breaks q (configurations _ _ r)) A.requirements ≡ true
