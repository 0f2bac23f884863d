-- What the reader's functions answer, by what following the format finds.
--
--   numbers_of xs       == the numbers of the sets xs
--   sets_with ns        == the sets with the numbers ns
--   list_of a           == the list of sets with the numbers of a
--   sets_of x           == the answer to a list of sets
--   requirement_of x    == the answer to a requirement's line
--   graph_of x          == the answer to a graph's lines
--   requirements_of x   == the answer to the requirements' lines
--   game_of x           == the answer to the whole text
use Rattle.std.specs.Prelude.{ℕ, List, map, Result}
use Rattle.sets.specs.declared.Set.{Set}
use Rattle.sets.specs.Words.{bits_of, set_of}
use Rattle.text_grammar.specs.Format.{Run}
use Rattle.game.specs.declared.Graph.{Graph}
use Rattle.game.specs.declared.Requirement.{Requirement}
use Rattle.game.specs.declared.Game.{Game}
use Rattle.text_shape.specs.Text.{PlainGraph, record_of}
use Rattle.text_shape.specs.Shape.{Sets}
use Rattle.text_pieces.specs.Pieces.{found_as}
use Rattle.text_pieces.specs.declared.Fault.{Fault}
use Rattle.text_pieces.specs.declared.Found.{Found}
use Rattle.text_scan.specs.declared.set_lists.SetList.{SetList}

abbrev pub numbers_of : List Set → List ℕ
numbers_of xs = map bits_of xs

abbrev pub sets_with : List ℕ → List Set
sets_with ns = map set_of ns

abbrev pub list_of : Sets → SetList
list_of a = record { sets = sets_with a.words; count = a.count }

abbrev pub sets_of : Run Sets → Result (Found SetList) Fault
sets_of x = found_as list_of x

abbrev pub requirement_of : Run Requirement → Result (Found Requirement) Fault
requirement_of x = found_as (λ q. q) x

abbrev pub graph_of : Run PlainGraph → Result (Found Graph) Fault
graph_of x = found_as record_of x

abbrev pub requirements_of : Run (List Requirement) → Result (Found (List Requirement)) Fault
requirements_of x = found_as (λ qs. qs) x

abbrev pub game_of : Run Game → Result (Found Game) Fault
game_of x = found_as (λ g. g) x
