-- Two tables play against each other. The play never stops, and there are finitely many joint configurations, so by the pigeonhole principle it
-- comes back to one that it was at. The stretch between is a reachable cycle of either table, with the same inputs and outputs: it meets all
-- requirements and breaks one, which cannot be. The first configurations are any: F for the controller, G for the environment.
--
--   ControllerFrom A T F     == from the configurations of F the table always replies, and every reachable cycle meets all requirements
--   EnvironmentFrom A P G    == from the configurations of G the table always moves, and every reachable cycle breaks a requirement
--   Stage A T P F G          == a joint configuration in range, reachable for both
--   no_play                  : there is no stage at which both can be
use Prim.Native.Nat.{ℕ, suc, ◌+◌, ◌-◌, ◌*◌, ◌<◌}
use mathlib.Core.Path.{◌≡◌, refl, sym, ◌∙◌, ap}
use mathlib.Core.Bool.{true}
use mathlib.Core.List.{◌∷◌, map}
use native.Mathlib.Omega.{arith}
use Rattle.finite.specs.Lists.{all_of, any_of}
use Rattle.finite.proofs.Lists.{map_same}
use Rattle.finite.proofs.Pigeonhole.{Repeat, pigeonhole}
use Rattle.graphs.proofs.Walk.{iterate, iterate_add, trail, orbit, passed_orbit}
use Rattle.arena.specs.Arena.{Arena}
use Rattle.arena.specs.Bounds.{Bounded}
use Rattle.arena.specs.Table.{Some, ControllerTable, EnvironmentTable}
use Rattle.arena.specs.Play.{Configuration, ControllerTurn, EnvironmentTurn, Reachable, Cycle, configurations, meets, breaks}
use Rattle.arena.proofs.Meets.{meets_breaks}
use Rattle.arena.proofs.Reach.{reached_turn}
use Rattle.duel.proofs.Joint.{Joint, controller_side, environment_side, Within, code, code_below, code_injective}

pub record ControllerFrom (A : Arena) (T : ControllerTable) (First : Configuration → Type 0) : Type 0 where
  pub steps : (c : Configuration) → Reachable First (ControllerTurn A T) c → (j : ℕ) → A.in_move c.input j ≡ true
      → Some T.memories (A.reply j c.output) (T.step c.memory c.output j)
  pub rounds : (r : Cycle First (ControllerTurn A T)) → all_of (λ q. meets q (configurations _ _ r)) A.requirements ≡ true

pub record EnvironmentFrom (A : Arena) (P : EnvironmentTable) (First : Configuration → Type 0) : Type 0 where
  pub steps : (c : Configuration) → Reachable First (EnvironmentTurn A P) c
      → Some P.memories (A.in_move c.input) (P.step c.memory c.input c.output)
  pub rounds : (r : Cycle First (EnvironmentTurn A P)) → any_of (λ q. breaks q (configurations _ _ r)) A.requirements ≡ true

-- where the play stands
pub record Stage (A : Arena) (T : ControllerTable) (P : EnvironmentTable) (F G : Configuration → Type 0) : Type 0 where
  pub joint : Joint
  pub within : Within A.inputs A.outputs T.memories P.memories joint
  pub controller : Reachable F (ControllerTurn A T) (controller_side joint)
  pub environment : Reachable G (EnvironmentTurn A P) (environment_side joint)

module _ (A : Arena) (B : Bounded A) (T : ControllerTable) (P : EnvironmentTable) (F G : Configuration → Type 0)
    (wins : ControllerFrom A T F) (beats : EnvironmentFrom A P G) where
  -- the environment's move, and the reply to it
  asked : (s : Stage A T P F G)
      → Some P.memories (A.in_move s.joint.input) (P.step s.joint.environment_memory s.joint.input s.joint.output)
  asked s = beats.steps (environment_side s.joint) s.environment

  answered : (s : Stage A T P F G)
      → Some T.memories (A.reply (asked s).state s.joint.output) (T.step s.joint.controller_memory s.joint.output (asked s).state)
  answered s = wins.steps (controller_side s.joint) s.controller (asked s).state (asked s).names.state

  after : Stage A T P F G → Joint
  after s = record {
    input = (asked s).state;
    output = (answered s).state;
    controller_memory = (answered s).memory;
    environment_memory = (asked s).memory;
  }

  controller_turn : (s : Stage A T P F G) → ControllerTurn A T (controller_side s.joint) (controller_side (after s))
  unfolding after
  controller_turn s = record { move = (asked s).names.state; step = (answered s).names }

  environment_turn : (s : Stage A T P F G) → EnvironmentTurn A P (environment_side s.joint) (environment_side (after s))
  unfolding after
  environment_turn s = record { step = (asked s).names; reply = (answered s).names.state }

  within_after : (s : Stage A T P F G) → Within A.inputs A.outputs T.memories P.memories (after s)
  unfolding after
  within_after s = record {
    input = B.move s.joint.input (asked s).state (asked s).names.state;
    output = B.reply (asked s).state s.joint.output (answered s).state (answered s).names.state;
    controller_memory = (answered s).names.memory;
    environment_memory = (asked s).names.memory;
  }

  advance : Stage A T P F G → Stage A T P F G
  advance s = record {
    joint = after s;
    within = within_after s;
    controller = reached_turn F (ControllerTurn A T) s.controller (controller_turn s);
    environment = reached_turn G (EnvironmentTurn A P) s.environment (environment_turn s);
  }

  controller_of : Stage A T P F G → Configuration
  controller_of s = controller_side s.joint

  environment_of : Stage A T P F G → Configuration
  environment_of s = environment_side s.joint

  controller_of_turn : (s : Stage A T P F G) → ControllerTurn A T (controller_of s) (controller_of (advance s))
  unfolding controller_of advance
  controller_of_turn = controller_turn

  environment_of_turn : (s : Stage A T P F G) → EnvironmentTurn A P (environment_of s) (environment_of (advance s))
  unfolding environment_of advance
  environment_of_turn = environment_turn

  -- a stretch of k + 1 turns that comes back is a cycle of either side
  module _ (s : Stage A T P F G) (k : ℕ) (back : (iterate advance (suc k) s).joint ≡ s.joint) where
    controller_cycle : Cycle F (ControllerTurn A T)
    unfolding controller_of iterate
    controller_cycle = record {
      at = controller_of s;
      next = controller_of (advance s);
      last = controller_of (iterate advance k (advance s));
      turn = controller_of_turn s;
      rest = orbit (ControllerTurn A T) advance controller_of controller_of_turn k (advance s);
      back = ap controller_side back;
      reachable = s.controller;
    }

    environment_cycle : Cycle G (EnvironmentTurn A P)
    unfolding environment_of iterate
    environment_cycle = record {
      at = environment_of s;
      next = environment_of (advance s);
      last = environment_of (iterate advance k (advance s));
      turn = environment_of_turn s;
      rest = orbit (EnvironmentTurn A P) advance environment_of environment_of_turn k (advance s);
      back = ap environment_side back;
      reachable = s.environment;
    }

    controller_passed : configurations _ _ controller_cycle ≡ map controller_of (trail advance (suc k) s)
    unfolding configurations controller_cycle trail
    controller_passed = ap (◌∷◌ (controller_of s)) (passed_orbit (ControllerTurn A T) advance controller_of controller_of_turn k (advance s))

    environment_passed : configurations _ _ environment_cycle ≡ map environment_of (trail advance (suc k) s)
    unfolding configurations environment_cycle trail
    environment_passed = ap (◌∷◌ (environment_of s)) (passed_orbit (EnvironmentTurn A P) advance environment_of environment_of_turn k (advance s))

    -- it meets all requirements and breaks one
    no_return : ⊥
    unfolding controller_of environment_of
    no_return =
        meets_breaks (configurations _ _ controller_cycle) (configurations _ _ environment_cycle)
        (rw (controller_passed, environment_passed) (map_same controller_of environment_of (λ c. c.input) (λ c. c.input) (λ x. refl) (trail advance (suc k) s)))
        (rw (controller_passed, environment_passed) (map_same controller_of environment_of (λ c. c.output) (λ c. c.output) (λ x. refl)
        (trail advance (suc k) s)))
        A.requirements (wins.rounds controller_cycle) (beats.rounds environment_cycle)

  number : Stage A T P F G → ℕ
  number s = code A.outputs T.memories P.memories s.joint

  same_number : (s t : Stage A T P F G) → number s ≡ number t → s.joint ≡ t.joint
  unfolding number
  same_number s t = code_injective A.inputs A.outputs T.memories P.memories s.joint t.joint s.within t.within

  number_below : (s : Stage A T P F G) → number s < A.inputs * A.outputs * T.memories * P.memories
  unfolding number
  number_below s = code_below A.inputs A.outputs T.memories P.memories s.joint s.within

  no_repeat : (s : Stage A T P F G) (n : ℕ) → Repeat (λ k. number (iterate advance k s)) n → ⊥
  no_repeat s n r =
      let k : ℕ = r.second - suc r.first in
      let t : Stage A T P F G = iterate advance r.first s in
      let split : r.second ≡ r.first + suc k = omega arith in
      let later : iterate advance r.second s ≡ iterate advance (suc k) t
      = ap (λ (x : ℕ). iterate advance x s) split ∙ iterate_add advance r.first (suc k) s in
      no_return t k (sym (same_number t (iterate advance (suc k) t) (r.same ∙ ap number later)))

  -- of the first stages, one more than there are joint configurations, two are at the same one
  pub no_play : Stage A T P F G → ⊥
  no_play s =
      no_repeat s (A.inputs * A.outputs * T.memories * P.memories)
      (pigeonhole (A.inputs * A.outputs * T.memories * P.memories) (λ k. number (iterate advance k s))
      (λ k b. number_below (iterate advance k s)))
