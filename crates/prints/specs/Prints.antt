-- What the solve program prints, from a game, and from what was read.
--
--   room_entries        == how many entries the program lends a room
--   table_print g v     == the print for the game g and the solver's answer v
--   game_print g        == the print for the game g
--   reading_print r     == the print for what was read
use Rattle.std.specs.Prelude.{List, ℕ, length}
use Rattle.game.specs.declared.Game.{Game}
use Rattle.game.specs.Refusals.{number}
use Rattle.play.specs.Play.{separated_of}
use Rattle.theory.specs.Choice.{guarantees, assumptions}
use Rattle.theory.specs.Entries.{controller_entries, environment_entries}
use Rattle.scratch.specs.Scratch.{scratch_length}
use Rattle.solver.specs.Verdict.{Verdict}
use Rattle.solver.specs.declared.Winner.TheVariants.{System, Environment}
use Rattle.solver.specs.Promise.{verdict_answer}
use Rattle.text.specs.declared.Unread.TheVariants.{Misshapen, Refused}
use Rattle.text.specs.Reading.{Reading}
use Rattle.print_lines.specs.Line.{refused_line, misshapen_line}
use Rattle.print_tables.specs.Print.{controller_print, environment_print}
use Rattle.std.specs.declared.result.Result.TheVariants.{Ok, Err}

-- SPEC 8.3

unfoldable pub table_print : Game → Verdict → List ℕ
table_print g (Ok (System n)) = controller_print g.input.states g.output.states (length (guarantees (separated_of g))) (controller_entries (separated_of g))
table_print g (Ok (Environment n)) =
    environment_print g.input.states g.output.states (length (assumptions (separated_of g))) (environment_entries (separated_of g))
table_print g (Err r) = refused_line (number r)

-- "The program lends 32,768 entries a room." (SPEC 8.5)
abbrev pub room_entries : ℕ
room_entries = 32768

-- and as much scratch as the game asks for (SPEC 8.5)
unfoldable pub game_print : Game → List ℕ
game_print g = table_print g (verdict_answer g (scratch_length g) room_entries room_entries)

-- "A refusal prints (refused N), for 11 (refused 11 P)." (SPEC 8.4)
unfoldable pub reading_print : Reading → List ℕ
reading_print (Ok g) = game_print g
reading_print (Err (Misshapen p)) = misshapen_line p
reading_print (Err (Refused r)) = refused_line (number r)
