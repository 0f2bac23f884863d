-- What two graphs allow stays below their counts, and so do reachable configurations.
--
--   Inside A M c    == c's input and output are below the arena's counts, and its memory below M
use Prim.Native.Nat.{ℕ, ◌<◌}
use mathlib.Core.Path.{◌≡◌}
use mathlib.Core.Bool.{true, ◌&&◌}
use lib.Dec.{ltb}
use borrow.Author.Tests.{ltb-true}
use Rattle.finite.proofs.Truth.{and_left, and_right}
use Rattle.graphs.specs.Graph.{Graph, edge, begins}
use Rattle.graphs.proofs.Walk.{keep}
use Rattle.arena.specs.Arena.{Arena, Separated, arena_of}
use Rattle.arena.specs.Table.{ControllerTable, EnvironmentTable}
use Rattle.arena.specs.Play.{Configuration, ControllerFirst, ControllerTurn, EnvironmentFirst, EnvironmentTurn, Reachable}
use Rattle.arena.specs.Bounds.{Bounded}

begins_below : (G : Graph) (s : ℕ) → begins G s ≡ true → s < G.states
unfolding begins
begins_below G s h = ltb-true s G.states (and_left (ltb s G.states) (G.initial s) h)

edge_below : (G : Graph) (s t : ℕ) → edge G s t ≡ true → t < G.states
unfolding edge
edge_below G s t h =
    ltb-true t G.states (and_left (ltb t G.states) (G.moves s t) (and_right (ltb s G.states) (ltb t G.states && G.moves s t) h))

pub bounded_arena_of : (S : Separated) → Bounded (arena_of S)
unfolding arena_of
bounded_arena_of S = record {
  initial = begins_below S.input;
  move = edge_below S.input;
  opening = λ i. begins_below S.output;
  reply = λ j. edge_below S.output;
}

pub record Inside (A : Arena) (M : ℕ) (c : Configuration) : Type 0 where
  pub input : c.input < A.inputs
  pub output : c.output < A.outputs
  pub memory : c.memory < M

module _ {A : Arena} (B : Bounded A) where
  inside_controller_first : {T : ControllerTable} {c : Configuration} → ControllerFirst A T c → Inside A T.memories c
  inside_controller_first {T} {c} f = record {
    input = B.initial c.input f.initial;
    output = B.opening c.input c.output f.start.state;
    memory = f.start.memory;
  }

  inside_controller_turn : {T : ControllerTable} {c d : Configuration} → ControllerTurn A T c d → Inside A T.memories d
  inside_controller_turn {T} {c} {d} t = record {
    input = B.move c.input d.input t.move;
    output = B.reply d.input c.output d.output t.step.state;
    memory = t.step.memory;
  }

  inside_environment_first : {P : EnvironmentTable} {c : Configuration} → EnvironmentFirst A P c → Inside A P.memories c
  inside_environment_first {P} {c} f = record {
    input = B.initial c.input f.start.state;
    output = B.opening c.input c.output f.opening;
    memory = f.start.memory;
  }

  inside_environment_turn : {P : EnvironmentTable} {c d : Configuration} → EnvironmentTurn A P c d → Inside A P.memories d
  inside_environment_turn {P} {c} {d} t = record {
    input = B.move c.input d.input t.step.state;
    output = B.reply d.input c.output d.output t.reply;
    memory = t.step.memory;
  }

  pub inside_controller : (T : ControllerTable) (c : Configuration) → Reachable (ControllerFirst A T) (ControllerTurn A T) c → Inside A T.memories c
  inside_controller T c r = keep (Inside A T.memories) (λ a b i t. inside_controller_turn t) r.walk (inside_controller_first r.first)

  pub inside_environment : (P : EnvironmentTable) (c : Configuration) → Reachable (EnvironmentFirst A P) (EnvironmentTurn A P) c → Inside A P.memories c
  inside_environment P c r = keep (Inside A P.memories) (λ a b i t. inside_environment_turn t) r.walk (inside_environment_first r.first)
