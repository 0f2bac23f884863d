-- Pins, on the game of two forks: tables whose answers count as none make no first configuration or no turn, and do not win.
use mathlib.Core.Path.{refl}
use native.Mathlib.Omega.{arith}
use Rattle.graphs.specs.Graph.{edge, begins}
use Rattle.arena.specs.Arena.{arena_of}
use Rattle.arena.specs.Table.{none, gives, ControllerTable, EnvironmentTable}
use Rattle.arena.specs.Play.{Configuration, ControllerFirst, ControllerTurn, EnvironmentFirst}
use Rattle.arena.specs.Win.{ControllerWins, EnvironmentWins}
use Rattle.arena.proofs.Answers.{none_is_none, names_no_state, names_no_memory}
use Rattle.arena.proofs.Reach.{reached_first}
use Rattle.arena.proofs.Fork.{split, fork, at}

-- "a start that names no initial state .. counts as none": the output 1 is not initial
unfoldable pub late : ControllerTable
late = record { memories = 1; start = λ i. gives 0 1; step = λ m o j. gives 0 j }

pub late_first : (c : Configuration) → ControllerFirst fork late c → ⊥
unfolding fork late split arena_of begins
late_first c f = names_no_state 0 1 refl (record { memory = c.memory; state = c.output; names = f.start })

pub late_loses : ControllerWins fork late → ⊥
unfolding fork late split arena_of begins
late_loses w = names_no_state 0 1 refl (w.starts 0 refl)

-- the same of the environment: the input 2 is not initial
unfoldable pub ahead : EnvironmentTable
ahead = record { memories = 1; start = gives 0 2; step = λ m i o. gives 0 2 }

pub ahead_first : (c : Configuration) → EnvironmentFirst fork ahead c → ⊥
unfolding fork ahead split arena_of begins
ahead_first c f = names_no_state 0 2 refl (record { memory = c.memory; state = c.input; names = f.start })

pub ahead_loses : EnvironmentWins fork ahead → ⊥
unfolding fork ahead split arena_of begins
ahead_loses w = names_no_state 0 2 refl w.starts

-- "a step that names no move": the output 0 does not move to itself. "or either that names no memory value of its table": there is one, 0.
unfoldable pub stuck : ControllerTable
stuck = record { memories = 1; start = λ i. gives 0 i; step = λ m o j. gives 0 0 }

unfoldable pub forgetful : ControllerTable
forgetful = record { memories = 1; start = λ i. gives 0 i; step = λ m o j. gives 1 j }

-- "a start or step may be none": honest starts and rows of none
unfoldable pub idle : ControllerTable
idle = record { memories = 1; start = λ i. gives 0 i; step = λ m o j. none }

-- "a none makes nothing"
pub stuck_turn : (d : Configuration) → ControllerTurn fork stuck (at 0 0) d → ⊥
unfolding fork stuck split arena_of edge
stuck_turn d t = names_no_state 0 0 refl (record { memory = d.memory; state = d.output; names = t.step })

pub forgetful_turn : (c d : Configuration) → ControllerTurn fork forgetful c d → ⊥
unfolding forgetful
forgetful_turn c d t = names_no_memory 1 d.input (omega arith) (record { memory = d.memory; state = d.output; names = t.step })

pub idle_turn : (c d : Configuration) → ControllerTurn fork idle c d → ⊥
unfolding idle
idle_turn c d t = none_is_none (record { memory = d.memory; state = d.output; names = t.step })

-- "its step for every input move from a reachable configuration, is not none": none of the three wins, though all their cycles, there being none,
-- meet all requirements
stuck_first : ControllerFirst fork stuck (at 0 0)
unfolding fork stuck split arena_of begins
stuck_first = record { initial = refl; start = record { is = refl; memory = omega arith; state = refl } }

pub stuck_loses : ControllerWins fork stuck → ⊥
unfolding fork stuck split arena_of edge
stuck_loses w = names_no_state 0 0 refl (w.steps (at 0 0) (reached_first _ _ stuck_first) 1 refl)

forgetful_first : ControllerFirst fork forgetful (at 0 0)
unfolding fork forgetful split arena_of begins
forgetful_first = record { initial = refl; start = record { is = refl; memory = omega arith; state = refl } }

pub forgetful_loses : ControllerWins fork forgetful → ⊥
unfolding fork forgetful split arena_of edge
forgetful_loses w = names_no_memory 1 1 (omega arith) (w.steps (at 0 0) (reached_first _ _ forgetful_first) 1 refl)

idle_first : ControllerFirst fork idle (at 0 0)
unfolding fork idle split arena_of begins
idle_first = record { initial = refl; start = record { is = refl; memory = omega arith; state = refl } }

pub idle_loses : ControllerWins fork idle → ⊥
unfolding fork idle split arena_of edge
idle_loses w = none_is_none (w.steps (at 0 0) (reached_first _ _ idle_first) 1 refl)

-- The same of the environment: its step at every reachable configuration is not none.
unfoldable pub silent : EnvironmentTable
silent = record { memories = 1; start = gives 0 0; step = λ m i o. none }

silent_first : EnvironmentFirst fork silent (at 0 0)
unfolding fork silent split arena_of begins
silent_first = record { start = record { is = refl; memory = omega arith; state = refl }; opening = refl }

pub silent_loses : EnvironmentWins fork silent → ⊥
unfolding silent
silent_loses w = none_is_none (w.steps (at 0 0) (reached_first _ _ silent_first))
