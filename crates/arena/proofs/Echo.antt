-- Pins, on an arena in which the controller may answer an input only by the same number: "the panel picks a next input by a move, having seen the
-- output, and the system picks a next output by a move, having seen that input." What it may do depends on the new input, not on the old one.
use Prim.Native.Nat.{◌-◌}
use mathlib.Core.Path.{refl}
use mathlib.Core.List.{[]}
use native.Mathlib.Omega.{arith}
use lib.Dec.{eqb, ltb}
use Rattle.finite.proofs.Truth.{clash}
use Rattle.arena.specs.Arena.{Arena}
use Rattle.arena.specs.Table.{gives, EnvironmentTable}
use Rattle.arena.specs.Play.{ControllerFirst, ControllerTurn, EnvironmentFirst, EnvironmentTurn}
use Rattle.arena.proofs.Fork.{at, copy}

unfoldable pub echo : Arena
echo = record {
  inputs = 2;
  outputs = 2;
  in_initial = λ i. ltb i 2;
  in_move = λ i j. ltb j 2;
  opening = λ i o. eqb i o;
  reply = λ j o p. eqb j p;
  requirements = [];
}

-- the environment starts with 1, and then moves to the number that is not the output's
unfoldable pub against : EnvironmentTable
against = record { memories = 1; start = gives 0 1; step = λ m i o. gives 0 (1 - o) }

-- "The panel picks an initial input; the system, seeing it, picks an initial output."
pub opens : ControllerFirst echo copy (at 1 1)
unfolding echo copy
opens = record { initial = refl; start = record { is = refl; memory = omega arith; state = refl } }

pub opens_against : EnvironmentFirst echo against (at 1 1)
unfolding echo against
opens_against = record { start = record { is = refl; memory = omega arith; state = refl }; opening = refl }

-- the reply is to the new input
pub answers : ControllerTurn echo copy (at 0 0) (at 1 1)
unfolding echo copy
answers = record { move = refl; step = record { is = refl; memory = omega arith; state = refl } }

pub answers_against : EnvironmentTurn echo against (at 0 0) (at 1 1)
unfolding echo against
answers_against = record { step = record { is = refl; memory = omega arith; state = refl }; reply = refl }

pub answers_no_other : EnvironmentTurn echo against (at 0 0) (at 1 0) → ⊥
unfolding echo
answers_no_other t = clash t.reply refl

-- the environment sees the output: from the same input, another output has another move
pub sees_output : EnvironmentTurn echo against (at 0 1) (at 0 0)
unfolding echo against
sees_output = record { step = record { is = refl; memory = omega arith; state = refl }; reply = refl }
