-- Pins: what Controller, Won, Opening and SystemWins say, on the game of two forks and on the game in which nothing moves.
use Prim.Native.Nat.{ℕ}
use native.Mathlib.Omega.{arith}
use mathlib.Core.Path.{◌≡◌, refl, sym}
use mathlib.Core.Bool.{Bool, true}
use mathlib.Core.Logic.{inl, inr}
use lib.Dec.{eqb, ltb}
use borrow.Author.Tests.{eqb-true}
use Rattle.finite.proofs.Truth.{and_right}
use Rattle.graphs.specs.Graph.{edge, begins}
use Rattle.arena.specs.Arena.{Arena, arena_of}
use Rattle.arena.specs.Win.{Controller, Won, Opening, SystemWins}
use Rattle.arena.proofs.Answers.{none_is_none, names_no_state}
use Rattle.arena.proofs.Fork.{split, fork, copy}
use Rattle.arena.proofs.Nones.{late, idle}
use Rattle.arena.proofs.Rest.{pair, rest, position_won, position_lost}

-- "a start gives memory and initial output for each initial input": a table whose start names no initial output is no controller,
pub late_no_controller : Controller fork late → ⊥
unfolding fork late split arena_of begins
late_no_controller C = names_no_state 0 1 refl (C.starts 0 0 refl refl)

-- "a step gives memory and output move from memory, output and new input": nor is one with rows of none,
pub idle_no_controller : Controller fork idle → ⊥
unfolding fork idle split arena_of edge
idle_no_controller C = none_is_none (C.steps 0 0 1 1 (omega arith) refl)

-- or one with a row that names no move, though it wins and never comes there: the output 1 does not move to 2.
pub copy_no_controller : Controller fork copy → ⊥
unfolding fork copy split arena_of edge
copy_no_controller C = names_no_state 0 2 refl (C.steps 0 1 2 1 (omega arith) refl)

-- "A position is won when some controller started there ..": a controller comes with it.
pub won_controller : (A : Arena) (i o : ℕ) (w : Won A i o) → Controller A w.table
won_controller A i o w = w.controller

abbrev pub both : ℕ → Bool
both s = true

-- Input 0 with output 1 is won, input 1 with output 0 is not.
pub won_0_1 : Won (rest both both) 0 1
won_0_1 = position_won both both 0 1 (omega arith) (inl refl) refl

pub lost_1_0 : Won (rest both both) 1 0 → ⊥
lost_1_0 w = position_lost both both w

-- "each initial input has an initial output making a won position": where 0 is the one initial output, input 0 has one and input 1 has none; the output 1,
-- which would do, is not initial.
zero_alone : (o : ℕ) → begins (pair (eqb 0)) o ≡ true → o ≡ 0
unfolding pair begins
zero_alone o h = sym (eqb-true 0 o (and_right (ltb o 2) (eqb 0 o) h))

module _ (a : ℕ → Bool) where
  opening_0 : Opening (rest a (eqb 0)) 0
  unfolding rest arena_of pair begins
  opening_0 = record { output = 0; allowed = refl; won = position_won a (eqb 0) 0 0 (omega arith) (inl refl) refl }

  pub won_1_1 : Won (rest a (eqb 0)) 1 1
  won_1_1 = position_won a (eqb 0) 1 1 (omega arith) (inr refl) refl

  no_opening_1 : Opening (rest a (eqb 0)) 1 → ⊥
  unfolding rest arena_of
  no_opening_1 x = position_lost a (eqb 0) (rw (zero_alone x.output x.allowed) at x.won)

-- So the system does not win where both inputs are initial, and wins where input 0 alone is.
pub system_loses : SystemWins (rest both (eqb 0)) → ⊥
unfolding rest arena_of pair begins
system_loses s = no_opening_1 both (s.openings 1 refl)

pub system_wins_lem : SystemWins (rest (eqb 0) (eqb 0))
unfolding rest arena_of
system_wins_lem = record { openings = λ i h. rw (zero_alone i h) (opening_0 (eqb 0)) }
