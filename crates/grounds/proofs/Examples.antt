-- Two games of our own, and the grounds of their positions, by computing. In the first every ground occurs; in the second components have two
-- states, and more than one number fits.
--
--   graph n rows              == the graph of n states with rows of moves
--   eight, pairs              == the games
--   reached, won, grounds     == what a ground is computed by
--   table S                   == the grounds of all positions, a list for each input
--   eight_grounds, pair_grounds
use Prim.Native.Nat.{ℕ}
use mathlib.Core.Path.{◌≡◌, refl}
use mathlib.Core.Bool.{Bool}
use mathlib.Core.List.{List, [], ◌∷◌}
use lib.Dec.{eqb}
use Rattle.finite.specs.Bounded.{all, any, least, least_from}
use Rattle.finite.specs.Lists.{all_of}
use Rattle.finite.specs.Tabulate.{tabulate, tabulate_from}
use Rattle.bits.specs.Member.{has, pack}
use Rattle.graphs.specs.Graph.{Graph, edge, stuck}
use Rattle.graphs.specs.Rows.{rel, rows_of}
use Rattle.graphs.specs.Closure.{nearby, joins, via, reaches}
use Rattle.graphs.specs.Component.{joined, nontrivial, leaves, meets_at}
use Rattle.arena.specs.Arena.{Separated}
use Rattle.theory.specs.Region.{due, served, accepting, safe, home_for, settles, answers, replies, rule, region_rows, region}
use Rattle.theory.specs.Tour.{goal_at}
use Rattle.theory.specs.Choice.{home}
use Rattle.grounds.specs.Ground.{
  Ground,
  input_stuck,
  by_replies,
  at_home,
  output_stuck,
  unanswered,
  by_way_out,
  unserved,
  pushed_on,
  nth_requirement,
  unreplied,
  lost_exit,
  owed,
  missed,
  first_owed,
  first_missed,
  won_ground,
  output_ground,
  nontrivial_ground,
  lost_ground,
  ground,
}

unfoldable graph : ℕ → List ℕ → Graph
graph n rows = record { states = n; initial = eqb 0; moves = rel rows }

-- Inputs 0 stuck; 1 to 0 and 2; 2 to itself; 3 to 2 and 3. Outputs 0 to itself; 1 stuck; 2 to 0; 3 to itself; 4 to 1 and 3. If {3} then {0}; if {2}
-- then {0, 3} and {0}.
unfoldable pub eight : Separated
unfolding graph
eight = record {
  input = graph 4 (0 ∷ 5 ∷ 4 ∷ 12 ∷ []);
  output = graph 5 (1 ∷ 0 ∷ 1 ∷ 8 ∷ 10 ∷ []);
  requirements =
      record { assumptions = has 8 ∷ []; guarantees = has 1 ∷ [] } ∷
      record { assumptions = has 4 ∷ []; guarantees = has 9 ∷ has 1 ∷ [] } ∷ [];
}

-- Inputs 0 to 1; 1 to 0, 2 and 3; 2, 3, 4 to themselves; 5 to 2 and 3. Outputs 0 to 1 and 3; 1 to 2; 2 to 1; 3 to 4; 4 to 3. If {2} then {1, 3} and
-- {2}; if {3} then {1}, {3} and {0}.
unfoldable pub pairs : Separated
unfolding graph
pairs = record {
  input = graph 6 (2 ∷ 13 ∷ 4 ∷ 8 ∷ 16 ∷ 12 ∷ []);
  output = graph 5 (10 ∷ 4 ∷ 2 ∷ 16 ∷ 8 ∷ []);
  requirements =
      record { assumptions = has 4 ∷ []; guarantees = has 10 ∷ has 4 ∷ [] } ∷
      record { assumptions = has 8 ∷ []; guarantees = has 2 ∷ has 8 ∷ has 1 ∷ [] } ∷ [];
}

-- what a ground is computed by, crate by crate
reached : Graph → ℕ → ℕ → Bool
unfolding all any least least_from all_of tabulate tabulate_from has pack edge stuck rel rows_of nearby joins via reaches
reached = reaches

won : Separated → ℕ → ℕ → Bool
unfolding reached joined nontrivial leaves meets_at due served accepting safe home_for settles answers replies rule region_rows region
won = region

grounds : Separated → ℕ → ℕ → Ground
unfolding won goal_at home nth_requirement unreplied lost_exit owed missed first_owed first_missed won_ground output_ground nontrivial_ground lost_ground ground
grounds = ground

unfoldable pub table : Separated → List (List Ground)
unfolding tabulate tabulate_from
table S = tabulate S.input.states (λ i. tabulate S.output.states (ground S i))

pub eight_grounds : table eight ≡
    (input_stuck ∷ input_stuck ∷ input_stuck ∷ input_stuck ∷ input_stuck ∷ []) ∷
    (by_replies ∷ output_stuck ∷ by_replies ∷ unanswered 2 ∷ unanswered 2 ∷ []) ∷
    (at_home 0 ∷ output_stuck ∷ at_home 0 ∷ unserved 1 1 ∷ pushed_on ∷ []) ∷
    (at_home 0 ∷ output_stuck ∷ at_home 0 ∷ by_way_out 2 ∷ by_way_out 2 ∷ []) ∷ []
unfolding grounds table eight
eight_grounds = refl

-- of the numbers that fit the lowest, and of a component its smallest state
pub pair_grounds :
    ground pairs 0 0 ∷ ground pairs 1 3 ∷ ground pairs 2 0 ∷ ground pairs 2 3 ∷ ground pairs 3 1 ∷ ground pairs 3 4 ∷ ground pairs 4 0 ∷
    ground pairs 4 4 ∷ ground pairs 5 0 ∷ ground pairs 5 3 ∷ [] ≡
    by_way_out 3 ∷ by_way_out 2 ∷ at_home 1 ∷ unserved 0 1 ∷ unserved 1 1 ∷ unserved 1 0 ∷ at_home 1 ∷
    at_home 3 ∷ unanswered 3 ∷ unanswered 2 ∷ []
unfolding grounds pairs
pair_grounds = refl
