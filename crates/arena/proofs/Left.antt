-- Pins, on the game of two forks: a turn of the environment's table, and what it does not win.
--
--   left     == the table that goes to 1
--   rests    == the cycle at input 1 and output 1
use Prim.Native.Nat.{ℕ}
use mathlib.Core.Path.{◌≡◌, refl}
use native.Mathlib.Omega.{arith}
use Rattle.finite.specs.Lists.{all_of, any_of}
use Rattle.finite.proofs.Truth.{clash}
use Rattle.graphs.specs.Walk.{stay, passed}
use Rattle.graphs.specs.Graph.{edge, begins}
use Rattle.arena.specs.Arena.{arena_of}
use Rattle.arena.specs.Table.{gives, EnvironmentTable}
use Rattle.arena.specs.Play.{EnvironmentFirst, EnvironmentTurn, Cycle, configurations, visits_input, visits_output, meets, breaks}
use Rattle.arena.specs.Win.{EnvironmentWins}
use Rattle.arena.proofs.Reach.{reached_first, reached_turn}
use Rattle.arena.proofs.Fork.{split, fork, at}

-- "one by the table's step, .. the other any move": the environment moves to 1 by its table, and the controller replies with 1 or with 2
unfoldable pub left : EnvironmentTable
left = record { memories = 1; start = gives 0 0; step = λ m i o. gives 0 1 }

pub left_one : EnvironmentTurn fork left (at 0 0) (at 1 1)
unfolding fork left split arena_of edge
left_one = record { step = record { is = refl; memory = omega arith; state = refl }; reply = refl }

pub left_two : EnvironmentTurn fork left (at 0 0) (at 1 2)
unfolding fork left split arena_of edge
left_two = record { step = record { is = refl; memory = omega arith; state = refl }; reply = refl }

pub left_first : EnvironmentFirst fork left (at 0 0)
unfolding fork left split arena_of begins
left_first = record { start = record { is = refl; memory = omega arith; state = refl }; opening = refl }

pub left_rests : EnvironmentTurn fork left (at 1 1) (at 1 1)
unfolding fork left split arena_of edge
left_rests = record { step = record { is = refl; memory = omega arith; state = refl }; reply = refl }

pub left_only : (o : ℕ) → EnvironmentTurn fork left (at 0 0) (at 2 o) → ⊥
unfolding left
left_only o t = let e : ◌≡◌ {A = ℕ} 1 2 = cc t.step.is in omega arith

-- "every reachable round breaks one": the cycle at input 1 and output 1 meets all requirements, so this table does not win
unfoldable pub rests : Cycle (EnvironmentFirst fork left) (EnvironmentTurn fork left)
rests = record {
  at = at 1 1;
  next = at 1 1;
  last = at 1 1;
  turn = left_rests;
  rest = stay;
  back = refl;
  reachable = reached_turn _ _ (reached_first _ _ left_first) left_one;
}

pub left_loses : EnvironmentWins fork left → ⊥
unfolding fork arena_of rests configurations passed breaks meets visits_input visits_output all_of any_of
left_loses w = clash (w.rounds rests) refl
