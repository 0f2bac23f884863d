-- The drives to try of document 01 that are to be proved, cases 1 to 8, with their files and prints: "The cases marked (p) form one table, proved once of
-- the definitions." Beside them stand games of our own for requests M-101 and M-102.
--
--   Case            == a name, a game, the bytes of its file and the bytes of its print
--   padded n z l    == the list l, and z behind it up to n places
--   graph i rows    == the graph with the set i of initial states and a row of moves for each state
--   if_then a b      == the requirement with the input sets a and the output sets b
--   game a b l      == the game of the input graph a and the output graph b, with the requirements l
--   case1 .. case8  == the cases
--   held..          == games in which a tie goes to the present state
--   stuck.., driven_on, latch, kept_off == games with states without a move
--   table           == all of them
--   Proved c        == what is proved of each
use Rattle.std.specs.Prelude.{ℕ, ◌-◌, ◌≡◌, List, [], ◌∷◌, ◌++◌, length, replicate}
use Prim.Native.String.{String}
use Rattle.sets.specs.Words.{capacity, set_of, words_of}
use Rattle.game.specs.declared.Graph.{Graph}
use Rattle.game.specs.declared.Requirement.{Requirement}
use Rattle.game.specs.declared.Game.{Game}
use Rattle.game.specs.Acceptance.{accepted, acceptance}
use Rattle.text_shape.specs.Text.{game_text, in_sets, out_sets, empty_requirement, Shaped}
use Rattle.text.specs.Reading.{Reading}
use Rattle.text.specs.Read.{Reads}
use Rattle.prints.specs.Prints.{game_print, reading_print}
use Rattle.check_cases.specs.Bytes.{file_bytes}

pub record Case : Type 0 where
  pub name : String
  pub game : Game
  pub file : List ℕ
  pub print : List ℕ

unfoldable pub padded : {A : Type 0} → ℕ → A → List A → List A
padded n z l = l ++ replicate (n - length l) z

-- "A graph is a state count, a set of initial states, and 64 rows of moves", 128 by M-105; a set is given by its number (SPEC 1.6)
unfoldable pub graph : ℕ → List ℕ → Graph
graph i rows = record { states = length rows; initial = set_of i; moves = words_of (padded capacity 0 rows) }

-- "requirements as arrays of four sets each" (SPEC 1.6)
unfoldable pub if_then : List ℕ → List ℕ → Requirement
if_then a b = record {
  assumptions = in_sets (padded 4 0 a);
  assumed = length a;
  guarantees = out_sets (padded 4 0 b);
  guaranteed = length b;
}

unfoldable pub game : Graph → Graph → List Requirement → Game
game a b l = record { input = a; output = b; k = length l; requirements = padded 8 empty_requirement l }

-- The example of "The file". (SPEC 8.1, 8.3)
unfoldable pub case1 : Case
case1 = record {
  name = "case_1";
  game = game (graph 1 (3 ∷ 3 ∷ [])) (graph 1 (3 ∷ 3 ∷ [])) (if_then (2 ∷ []) (2 ∷ []) ∷ []);
  file = file_bytes (
      "(game 2 2 1)" ∷ "(in 0 1 (0 1))" ∷ "(in 1 0 (0 1))" ∷ "(out 0 1 (0 1))" ∷ "(out 1 0 (0 1))" ∷ "(if ((1)) ((1)))" ∷ []);
  print = file_bytes (
      "(wins system)" ∷ "(start 0 0)" ∷ "(step 0 0 0 1 0)" ∷ "(step 0 0 1 1 0)" ∷ "(step 1 0 0 1 0)" ∷ "(step 1 0 1 1 0)" ∷ []);
}

-- "One state each, a self-move, k = 0: system; step 0 0 0 0 0." (SPEC 5.7)
unfoldable pub case2 : Case
case2 = record {
  name = "case_2";
  game = game (graph 1 (1 ∷ [])) (graph 1 (1 ∷ [])) [];
  file = file_bytes (
      "(game 1 1 0)" ∷ "(in 0 1 (0))" ∷ "(out 0 1 (0))" ∷ []);
  print = file_bytes (
      "(wins system)" ∷ "(start 0 0)" ∷ "(step 0 0 0 0 0)" ∷ []);
}

-- "As 2 with (if ((0)) (())): environment, start 0, step 0 0 0 0 0." (SPEC 2.8)
unfoldable pub case3 : Case
case3 = record {
  name = "case_3";
  game = game (graph 1 (1 ∷ [])) (graph 1 (1 ∷ [])) (if_then (1 ∷ []) (0 ∷ []) ∷ []);
  file = file_bytes (
      "(game 1 1 1)" ∷ "(in 0 1 (0))" ∷ "(out 0 1 (0))" ∷ "(if ((0)) (()))" ∷ []);
  print = file_bytes (
      "(wins environment)" ∷ "(start 0)" ∷ "(step 0 0 0 0 0)" ∷ []);
}

-- "(if () (())): the same print." (SPEC 2.8)
unfoldable pub case4 : Case
case4 = record {
  name = "case_4";
  game = game (graph 1 (1 ∷ [])) (graph 1 (1 ∷ [])) (if_then [] (0 ∷ []) ∷ []);
  file = file_bytes (
      "(game 1 1 1)" ∷ "(in 0 1 (0))" ∷ "(out 0 1 (0))" ∷ "(if () (()))" ∷ []);
  print = file_bytes (
      "(wins environment)" ∷ "(start 0)" ∷ "(step 0 0 0 0 0)" ∷ []);
}

-- "(if (()) (())): system." (SPEC 2.8)
unfoldable pub case5 : Case
case5 = record {
  name = "case_5";
  game = game (graph 1 (1 ∷ [])) (graph 1 (1 ∷ [])) (if_then (0 ∷ []) (0 ∷ []) ∷ []);
  file = file_bytes (
      "(game 1 1 1)" ∷ "(in 0 1 (0))" ∷ "(out 0 1 (0))" ∷ "(if (()) (()))" ∷ []);
  print = file_bytes (
      "(wins system)" ∷ "(start 0 0)" ∷ "(step 0 0 0 0 0)" ∷ []);
}

-- "Inputs 0 to 1; 1 to 2 and 3; 2, 3 to themselves. Outputs 0 to 1 and 2; 1, 2 to themselves. Initial 0, 0. If {2} then {1}; if {3} then {2}:
-- environment, the output commits too early." (SPEC 2.1, 3.3)
unfoldable pub case6 : Case
case6 = record {
  name = "case_6";
  game = game (graph 1 (2 ∷ 12 ∷ 4 ∷ 8 ∷ [])) (graph 1 (6 ∷ 2 ∷ 4 ∷ [])) (if_then (4 ∷ []) (2 ∷ []) ∷ if_then (8 ∷ []) (4 ∷ []) ∷ []);
  file = file_bytes (
      "(game 4 3 2)" ∷ "(in 0 1 (1))" ∷ "(in 1 0 (2 3))" ∷ "(in 2 0 (2))" ∷ "(in 3 0 (3))" ∷ "(out 0 1 (1 2))" ∷ "(out 1 0 (1))" ∷ "(out 2 0 (2))" ∷
      "(if ((2)) ((1)))" ∷ "(if ((3)) ((2)))" ∷ []);
  print = file_bytes (
      "(wins environment)" ∷ "(start 0)" ∷ "(step 0 0 0 1 0)" ∷ "(step 0 0 1 1 0)" ∷ "(step 0 0 2 1 0)" ∷ "(step 0 1 0 1 1)" ∷ "(step 0 1 1 1 1)" ∷
      "(step 0 1 2 1 1)" ∷ "(step 1 0 1 3 0)" ∷ "(step 1 0 2 2 0)" ∷ "(step 1 1 1 3 1)" ∷ "(step 1 1 2 2 1)" ∷ "(step 2 0 2 2 1)" ∷
      "(step 2 1 2 2 1)" ∷ "(step 3 0 1 3 0)" ∷ "(step 3 1 1 3 0)" ∷ []);
}

-- "As 6, output 0 also to 0: system." (SPEC 3.3)
unfoldable pub case7 : Case
case7 = record {
  name = "case_7";
  game = game (graph 1 (2 ∷ 12 ∷ 4 ∷ 8 ∷ [])) (graph 1 (7 ∷ 2 ∷ 4 ∷ [])) (if_then (4 ∷ []) (2 ∷ []) ∷ if_then (8 ∷ []) (4 ∷ []) ∷ []);
  file = file_bytes (
      "(game 4 3 2)" ∷ "(in 0 1 (1))" ∷ "(in 1 0 (2 3))" ∷ "(in 2 0 (2))" ∷ "(in 3 0 (3))" ∷ "(out 0 1 (0 1 2))" ∷ "(out 1 0 (1))" ∷
      "(out 2 0 (2))" ∷ "(if ((2)) ((1)))" ∷ "(if ((3)) ((2)))" ∷ []);
  print = file_bytes (
      "(wins system)" ∷ "(start 0 0)" ∷ "(step 0 0 0 0 0)" ∷ "(step 0 0 1 0 0)" ∷ "(step 0 0 2 1 0)" ∷ "(step 0 0 3 2 0)" ∷ "(step 0 1 0 0 1)" ∷
      "(step 0 1 1 0 1)" ∷ "(step 0 1 2 1 1)" ∷ "(step 0 1 3 2 1)" ∷ "(step 1 0 2 1 1)" ∷ "(step 1 1 2 1 1)" ∷ "(step 2 0 3 2 0)" ∷
      "(step 2 1 3 2 0)" ∷ []);
}

-- "Inputs 0 to 1 and 2; 1, 2 to themselves. Outputs 0 to 1 and 2; 1 to 0; 2 to itself. Initial 0, 0. If {s} then {s}, s = 0, 1, 2: system." (SPEC 5.6)
unfoldable pub case8 : Case
case8 = record {
  name = "case_8";
  game = game (graph 1 (6 ∷ 2 ∷ 4 ∷ [])) (graph 1 (6 ∷ 1 ∷ 4 ∷ []))
      (if_then (1 ∷ []) (1 ∷ []) ∷ if_then (2 ∷ []) (2 ∷ []) ∷ if_then (4 ∷ []) (4 ∷ []) ∷ []);
  file = file_bytes (
      "(game 3 3 3)" ∷ "(in 0 1 (1 2))" ∷ "(in 1 0 (1))" ∷ "(in 2 0 (2))" ∷ "(out 0 1 (1 2))" ∷ "(out 1 0 (0))" ∷ "(out 2 0 (2))" ∷
      "(if ((0)) ((0)))" ∷ "(if ((1)) ((1)))" ∷ "(if ((2)) ((2)))" ∷ []);
  print = file_bytes (
      "(wins system)" ∷ "(start 0 0)" ∷ "(step 0 0 0 1 0)" ∷ "(step 0 0 1 1 0)" ∷ "(step 0 0 2 2 0)" ∷ "(step 0 1 0 1 1)" ∷ "(step 0 1 1 1 2)" ∷
      "(step 0 1 2 2 1)" ∷ "(step 0 2 0 1 2)" ∷ "(step 0 2 1 1 0)" ∷ "(step 0 2 2 2 2)" ∷ "(step 1 0 0 0 0)" ∷ "(step 1 0 1 0 1)" ∷
      "(step 1 0 2 0 0)" ∷ "(step 1 1 0 0 1)" ∷ "(step 1 1 1 0 1)" ∷ "(step 1 1 2 0 1)" ∷ "(step 1 2 0 0 2)" ∷ "(step 1 2 1 0 1)" ∷
      "(step 1 2 2 0 2)" ∷ "(step 2 0 2 2 0)" ∷ "(step 2 1 2 2 0)" ∷ "(step 2 2 2 2 0)" ∷ []);
}

-- ---- "Wherever 01 breaks a tie between shortest ways, a move to the present state now goes first, then the lowest." (M-101) A row changes in two
-- situations: a game for each, for both sides.

-- On tour, the present output in the aim and with a self-move: one input; two outputs, every move; the aim holds both.
unfoldable pub held_aim : Case
held_aim = record {
  name = "held_aim";
  game = game (graph 1 (1 ∷ [])) (graph 1 (3 ∷ 3 ∷ [])) (if_then [] (3 ∷ []) ∷ []);
  file = file_bytes (
      "(game 1 2 1)" ∷ "(in 0 1 (0))" ∷ "(out 0 1 (0 1))" ∷ "(out 1 0 (0 1))" ∷ "(if () ((0 1)))" ∷ []);
  print = file_bytes (
      "(wins system)" ∷ "(start 0 0)" ∷ "(step 0 0 0 0 0)" ∷ "(step 1 0 0 1 0)" ∷ []);
}

-- "The same holds for the lowest move inside home with no aim": the same drives, nothing required. (SPEC 5.7)
unfoldable pub held_free : Case
held_free = record {
  name = "held_free";
  game = game (graph 1 (1 ∷ [])) (graph 1 (3 ∷ 3 ∷ [])) [];
  file = file_bytes (
      "(game 1 2 0)" ∷ "(in 0 1 (0))" ∷ "(out 0 1 (0 1))" ∷ "(out 1 0 (0 1))" ∷ []);
  print = file_bytes (
      "(wins system)" ∷ "(start 0 0)" ∷ "(step 0 0 0 0 0)" ∷ "(step 1 0 0 1 0)" ∷ []);
}

-- "and for the panel's walks": two inputs, every move; the aim holds both; one output, which cannot do what is due. (SPEC 6.7)
unfoldable pub held_panel_aim : Case
held_panel_aim = record {
  name = "held_panel_aim";
  game = game (graph 1 (3 ∷ 3 ∷ [])) (graph 1 (1 ∷ [])) (if_then (3 ∷ []) (0 ∷ []) ∷ []);
  file = file_bytes (
      "(game 2 1 1)" ∷ "(in 0 1 (0 1))" ∷ "(in 1 0 (0 1))" ∷ "(out 0 1 (0))" ∷ "(if ((0 1)) (()))" ∷ []);
  print = file_bytes (
      "(wins environment)" ∷ "(start 0)" ∷ "(step 0 0 0 0 0)" ∷ "(step 1 0 0 1 0)" ∷ []);
}

-- The same with no input set: what is due is so always, and the panel has no aim.
unfoldable pub held_panel_free : Case
held_panel_free = record {
  name = "held_panel_free";
  game = game (graph 1 (3 ∷ 3 ∷ [])) (graph 1 (1 ∷ [])) (if_then [] (0 ∷ []) ∷ []);
  file = file_bytes (
      "(game 2 1 1)" ∷ "(in 0 1 (0 1))" ∷ "(in 1 0 (0 1))" ∷ "(out 0 1 (0))" ∷ "(if () (()))" ∷ []);
  print = file_bytes (
      "(wins environment)" ∷ "(start 0)" ∷ "(step 0 0 0 0 0)" ∷ "(step 1 0 0 1 0)" ∷ []);
}

-- ---- "So a state without a move is accepted, and 4 no longer occurs." (M-102)

-- "A play that stops for want of an input move is won": inputs and outputs 0 to 1, 1 to none. (SPEC 3.2)
unfoldable pub stuck_input : Case
stuck_input = record {
  name = "stuck_input";
  game = game (graph 1 (2 ∷ 0 ∷ [])) (graph 1 (2 ∷ 0 ∷ [])) (if_then [] (0 ∷ []) ∷ []);
  file = file_bytes (
      "(game 2 2 1)" ∷ "(in 0 1 (1))" ∷ "(in 1 0 ())" ∷ "(out 0 1 (1))" ∷ "(out 1 0 ())" ∷ "(if () (()))" ∷ []);
  print = file_bytes (
      "(wins system)" ∷ "(start 0 0)" ∷ "(step 0 0 1 1 0)" ∷ []);
}

-- "and one that stops for want of an output move is lost"; "Where the output is stuck and the input is not, the panel row is the lowest move and h stays.
-- In a position with the input stuck the panel row is none." (SPEC 3.2, 6.4)
unfoldable pub stuck_output : Case
stuck_output = record {
  name = "stuck_output";
  game = game (graph 1 (6 ∷ 3 ∷ 0 ∷ [])) (graph 1 (0 ∷ [])) [];
  file = file_bytes (
      "(game 3 1 0)" ∷ "(in 0 1 (1 2))" ∷ "(in 1 0 (0 1))" ∷ "(in 2 0 ())" ∷ "(out 0 1 ())" ∷ []);
  print = file_bytes (
      "(wins environment)" ∷ "(start 0)" ∷ "(step 0 0 0 1 0)" ∷ "(step 1 0 0 0 0)" ∷ []);
}

-- One state each, without a move: the input is to move first.
unfoldable pub stuck_both : Case
stuck_both = record {
  name = "stuck_both";
  game = game (graph 1 (0 ∷ [])) (graph 1 (0 ∷ [])) (if_then [] (0 ∷ []) ∷ []);
  file = file_bytes (
      "(game 1 1 1)" ∷ "(in 0 1 ())" ∷ "(out 0 1 ())" ∷ "(if () (()))" ∷ []);
  print = file_bytes (
      "(wins system)" ∷ "(start 0 0)" ∷ []);
}

-- A panel that drives into a stuck output: outputs 0 to 1, 1 to 2, 2 to none. The input 1 stays, and only then goes to 0, where it is stuck itself: the system
-- is stopped first.
unfoldable pub driven_on : Case
driven_on = record {
  name = "driven_on";
  game = game (graph 2 (0 ∷ 3 ∷ [])) (graph 1 (2 ∷ 4 ∷ 0 ∷ [])) [];
  file = file_bytes (
      "(game 2 3 0)" ∷ "(in 0 0 ())" ∷ "(in 1 1 (0 1))" ∷ "(out 0 1 (1))" ∷ "(out 1 0 (2))" ∷ "(out 2 0 ())" ∷ []);
  print = file_bytes (
      "(wins environment)" ∷ "(start 1)" ∷ "(step 1 0 0 1 0)" ∷ "(step 1 0 1 1 0)" ∷ "(step 1 0 2 0 0)" ∷ []);
}

-- A latch that makes flush impossible (examples/latch.game).
unfoldable pub latch : Case
latch = record {
  name = "latch";
  game = game (graph 1 (3 ∷ 1 ∷ [])) (graph 1 (3 ∷ 4 ∷ 0 ∷ [])) (if_then (2 ∷ []) (2 ∷ []) ∷ []);
  file = file_bytes (
      "(game 2 3 1)" ∷ "(in 0 1 (0 1))" ∷ "(in 1 0 (0))" ∷ "(out 0 1 (0 1))" ∷ "(out 1 0 (2))" ∷ "(out 2 0 ())" ∷ "(if ((1)) ((1)))" ∷ []);
  print = file_bytes (
      "(wins environment)" ∷ "(start 0)" ∷ "(step 0 0 0 1 0)" ∷ "(step 0 0 1 1 0)" ∷ "(step 0 0 2 0 0)" ∷ "(step 1 0 0 0 0)" ∷ "(step 1 0 1 0 0)" ∷
      "(step 1 0 2 0 0)" ∷ []);
}

-- Dead ends on both sides, and an adapter that keeps off its own (examples/latch_kept_off.game).
unfoldable pub kept_off : Case
kept_off = record {
  name = "latch_kept_off";
  game = game (graph 1 (3 ∷ 5 ∷ 0 ∷ [])) (graph 1 (7 ∷ 5 ∷ 0 ∷ [])) (if_then (2 ∷ []) (2 ∷ []) ∷ []);
  file = file_bytes (
      "(game 3 3 1)" ∷ "(in 0 1 (0 1))" ∷ "(in 1 0 (0 2))" ∷ "(in 2 0 ())" ∷ "(out 0 1 (0 1 2))" ∷ "(out 1 0 (0 2))" ∷ "(out 2 0 ())" ∷
      "(if ((1)) ((1)))" ∷ []);
  print = file_bytes (
      "(wins system)" ∷ "(start 0 0)" ∷ "(step 0 0 0 1 0)" ∷ "(step 0 0 1 1 0)" ∷ "(step 0 0 2 0 0)" ∷ "(step 1 0 0 0 0)" ∷ "(step 1 0 1 0 0)" ∷
      "(step 1 0 2 0 0)" ∷ []);
}

unfoldable pub table : List Case
unfolding case1 case2 case3 case4 case5 case6 case7 case8 held_aim held_free held_panel_aim held_panel_free stuck_input stuck_output stuck_both driven_on
    latch kept_off
table =
    case1 ∷ case2 ∷ case3 ∷ case4 ∷ case5 ∷ case6 ∷ case7 ∷ case8 ∷ held_aim ∷ held_free ∷ held_panel_aim ∷ held_panel_free
    ∷ stuck_input ∷ stuck_output ∷ stuck_both ∷
    driven_on ∷ latch ∷ kept_off ∷ []

pub record Proved (c : Case) : Type 0 where
  -- the game is within the shape's limits, its text is the file, it is accepted, and its print is the print
  pub shaped : Shaped c.game
  pub file : game_text c.game ≡ c.file
  pub accepted : acceptance c.game ≡ accepted
  pub print : game_print c.game ≡ c.print
  -- so whatever answers the file as the reader promises, the print for it is the print
  pub reads : (r : Reading) → Reads c.file r → reading_print r ≡ c.print
