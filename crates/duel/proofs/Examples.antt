-- Demand 3 holds of small games, with the tables written out.
use Prim.Native.Nat.{ℕ, ◌<◌}
use mathlib.Core.Path.{◌≡◌, refl}
use mathlib.Core.Bool.{true, false}
use mathlib.Core.List.{List, [], ◌∷◌}
use native.Mathlib.Omega.{arith}
use borrow.Author.Tests.{lt-ltb}
use Rattle.finite.specs.Lists.{all_of, any_of}
use Rattle.finite.proofs.Truth.{and_intro, or_left}
use Rattle.graphs.specs.Graph.{Graph, edge, begins}
use Rattle.arena.specs.Arena.{Requirement, Separated, arena_of}
use Rattle.arena.specs.Table.{gives, ControllerTable, EnvironmentTable}
use Rattle.arena.specs.Play.{configurations}
use Rattle.arena.specs.Win.{ControllerWins, EnvironmentWins, system, environment, DemandThree}
use Rattle.arena.proofs.Bounds.{bounded_arena_of, inside_controller, inside_environment}
use Rattle.arena.proofs.Answers.{names_both}
use Rattle.arena.proofs.Sets.{empty_output_set_broken}
use Rattle.arena.proofs.Fork.{fork, copy, copy_wins}
use Rattle.duel.proofs.Duel.{demand_system, demand_environment}

-- one state that moves to itself
unfoldable pub dot : Graph
dot = record { states = 1; initial = λ s. true; moves = λ s t. true }

unfoldable pub point : List Requirement → Separated
point qs = record { input = dot; output = dot; requirements = qs }

unfoldable pub stand : ControllerTable
stand = record { memories = 1; start = λ i. gives 0 0; step = λ m o j. gives 0 0 }

unfoldable pub wait : EnvironmentTable
wait = record { memories = 1; start = gives 0 0; step = λ m i o. gives 0 0 }

dot_moves : (s : ℕ) → s < 1 → edge dot s 0 ≡ true
unfolding dot edge
dot_moves s h = and_intro (lt-ltb s 1 h) refl

-- "One state each, a self-move, k = 0: system"
stand_wins : ControllerWins (arena_of (point [])) stand
unfolding point stand arena_of dot begins all_of
stand_wins = record {
  starts = λ i h. names_both 0 0 (omega arith) refl;
  steps = λ c r j h. names_both 0 0 (omega arith) (dot_moves c.output (inside_controller (bounded_arena_of (point [])) stand c r).output);
  rounds = λ r. refl;
}

pub case_two : DemandThree (arena_of (point [])) (system stand)
case_two = demand_system (bounded_arena_of (point [])) stand_wins

-- "(if () (())): the same print", environment
unfoldable pub impossible : Requirement
impossible = record { assumptions = []; guarantees = (λ s. false) ∷ [] }

wait_wins : EnvironmentWins (arena_of (point (impossible ∷ []))) wait
unfolding point wait arena_of dot begins any_of impossible
wait_wins = record {
  starts = names_both 0 0 (omega arith) refl;
  steps = λ c r. names_both 0 0 (omega arith) (dot_moves c.input (inside_environment (bounded_arena_of (point (impossible ∷ []))) wait c r).input);
  rounds = λ r. or_left false (empty_output_set_broken [] [] (configurations _ _ r));
}

pub case_four : DemandThree (arena_of (point (impossible ∷ []))) (environment wait)
case_four = demand_environment (bounded_arena_of (point (impossible ∷ []))) wait_wins

-- the game of two forks, in which the reply must follow the input
pub case_fork : DemandThree fork (system copy)
unfolding fork
case_fork = demand_system (bounded_arena_of _) copy_wins
