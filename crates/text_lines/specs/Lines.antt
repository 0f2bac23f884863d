-- The answers to lines, by what following the format finds.
--
--   counts_of h         == the counts of the header h
--   header_of x         == the answer to the header
--   row_of q            == the flag and the moves of the line q
--   state_of x          == the answer to a state's line
use Rattle.std.specs.Prelude.{Result}
use Rattle.sets.specs.Words.{set_of}
use Rattle.text_grammar.specs.Format.{Run}
use Rattle.text_shape.specs.Shape.{Header, StateRow}
use Rattle.text_pieces.specs.Pieces.{found_as}
use Rattle.text_pieces.specs.declared.Fault.{Fault}
use Rattle.text_pieces.specs.declared.Found.{Found}
use Rattle.text_lines.specs.declared.Header.{Header as HeaderScan}
use Rattle.text_lines.specs.declared.Row.{Row}

abbrev pub counts_of : Header → HeaderScan
counts_of h = record { inputs = h.inputs; outputs = h.outputs; k = h.k }

abbrev pub header_of : Run Header → Result (Found HeaderScan) Fault
header_of x = found_as counts_of x

abbrev pub row_of : StateRow → Row
row_of q = record { initial = q.initial; moves = set_of q.moves }

abbrev pub state_of : Run StateRow → Result (Found Row) Fault
state_of x = found_as row_of x
