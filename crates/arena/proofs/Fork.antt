-- Pins, on a game of two forks: from state 0 to state 1 or state 2, for good. The controller must end where the environment does, so its reply has to
-- follow the input just seen.
--
--   fork         == the game: if {1} then {1}; if {2} then {2}
--   copy         == the controller that replies with the new input
--   at i o       == the configuration of input i and output o, with memory 0
use Prim.Native.Nat.{ℕ}
use mathlib.Core.Path.{◌≡◌, refl, sym, ◌∙◌, ap}
use mathlib.Core.Bool.{Bool, true, not, ◌&&◌, ◌||◌}
use mathlib.Core.List.{[], ◌∷◌}
use native.Mathlib.Omega.{arith}
use lib.Dec.{eqb}
use Rattle.finite.specs.Lists.{all_of}
use Rattle.finite.proofs.Truth.{and_intro}
use Rattle.finite.proofs.Lists.{all_of_same, any_of_same}
use Rattle.graphs.specs.Graph.{Graph, edge}
use Rattle.graphs.proofs.Walk.{keep}
use Rattle.arena.specs.Arena.{Requirement, Arena, arena_of}
use Rattle.arena.specs.Table.{gives, ControllerTable}
use Rattle.arena.specs.Play.{Configuration, ControllerFirst, ControllerTurn, Reachable, Cycle, configurations, visits_input, visits_output, meets}
use Rattle.arena.specs.Win.{ControllerWins}
use Rattle.arena.proofs.Meets.{meets_intro}
use Rattle.arena.proofs.Reach.{cycle_reachable}
use Rattle.arena.proofs.Answers.{names_both}

unfoldable pub split : Graph
split = record {
  states = 3;
  initial = λ s. eqb s 0;
  moves = λ s t. (eqb s 0 && not (eqb t 0)) || (not (eqb s 0) && eqb s t);
}

-- if the set of the one state s recurs among the inputs, so it does among the outputs
abbrev pub follow : ℕ → Requirement
follow s = record { assumptions = eqb s ∷ []; guarantees = eqb s ∷ [] }

unfoldable pub fork : Arena
unfolding arena_of
fork = arena_of (record { input = split; output = split; requirements = follow 1 ∷ follow 2 ∷ [] })

abbrev pub at : ℕ → ℕ → Configuration
at i o = record { input = i; output = o; memory = 0 }

unfoldable pub copy : ControllerTable
copy = record { memories = 1; start = λ i. gives 0 i; step = λ m o j. gives 0 j }

-- "the system picks a next output by a move, having seen that input": from one configuration, with one output and one memory value, the reply is 1
-- to the input 1 and 2 to the input 2
pub sees_one : ControllerTurn fork copy (at 0 0) (at 1 1)
unfolding fork copy split arena_of edge
sees_one = record { move = refl; step = record { is = refl; memory = omega arith; state = refl } }

pub sees_two : ControllerTurn fork copy (at 0 0) (at 2 2)
unfolding fork copy split arena_of edge
sees_two = record { move = refl; step = record { is = refl; memory = omega arith; state = refl } }

-- the input and the output are the same in every configuration
Copied : Configuration → Type 0
Copied c = (c.input ≡ c.output)

first_copied : (c : Configuration) → ControllerFirst fork copy c → Copied c
unfolding Copied copy
first_copied c f = cc f.start.is

turn_copied : (c d : Configuration) → Copied c → ControllerTurn fork copy c d → Copied d
unfolding Copied copy
turn_copied c d e t = cc t.step.is

reached_copied : (c : Configuration) → Reachable (ControllerFirst fork copy) (ControllerTurn fork copy) c → Copied c
reached_copied c r = keep Copied turn_copied r.walk (first_copied r.origin r.first)

-- "A configuration is reachable when a walk from a first one ends in it": input 1 with output 2 is not.
pub not_reached : Reachable (ControllerFirst fork copy) (ControllerTurn fork copy) (at 1 2) → ⊥
unfolding Copied
not_reached r = let e : ◌≡◌ {A = ℕ} 1 2 = reached_copied (at 1 2) r in omega arith

same_visits : (s : ℕ → Bool) (r : Cycle (ControllerFirst fork copy) (ControllerTurn fork copy))
    → visits_input s (configurations _ _ r) ≡ visits_output s (configurations _ _ r)
unfolding visits_input visits_output Copied
same_visits s r =
    any_of_same (λ c. s c.input) (λ c. s c.output) (configurations _ _ r)
    (λ c m. ap s (reached_copied c (cycle_reachable (ControllerFirst fork copy) (ControllerTurn fork copy) r c m)))

follows : (s : ℕ) (r : Cycle (ControllerFirst fork copy) (ControllerTurn fork copy)) → meets (follow s) (configurations _ _ r) ≡ true
follows s r = meets_intro (follow s) (configurations _ _ r)
    (λ e. sym (all_of_same (λ t. visits_input t (configurations _ _ r)) (λ t. visits_output t (configurations _ _ r)) (eqb s ∷ []) (λ t m. same_visits t r)) ∙ e)

-- "A controller's table wins when its start for each initial input, and its step for every input move from a reachable configuration, is not none,
-- and every reachable round meets all requirements": copy wins.
pub copy_wins : ControllerWins fork copy
unfolding fork copy arena_of Copied all_of
copy_wins = record {
  starts = λ i h. names_both 0 i (omega arith) h;
  steps = λ c r j h. names_both 0 j (omega arith) (rw (reached_copied c r) at h);
  rounds = λ r. and_intro (follows 1 r) (and_intro (follows 2 r) refl);
}
