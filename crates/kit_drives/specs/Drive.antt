-- Drives as command tables, and the game of two of them.
--
--   next_in n m u        == what place (mode m, command u) of the table n says: the next mode, or 255 for barred
--   next_mode d m u      == the same of a drive
--   allows d m u        == the drive allows command u in mode m
--   made_by n c m t      == one of the first c commands leads from mode m to mode t
--   graph_from d         == the drive's graph
--   game_from k          == the kit's game
--   command_for d m t    == the lowest command that leads from m to t
--   Small d             == counts as small as a drive's may be
use Rattle.std.specs.Prelude.{ℕ, ◌+◌, ◌*◌, ◌≤◌, Bool, not, ◌&&◌, List, eqb, ltb, get_or}
use Rattle.finite.specs.Bounded.{any, least}
use Rattle.sets.specs.Words.{capacity, words_of}
use Rattle.graphs.specs.Rows.{rows_of}
use Rattle.game.specs.declared.Graph.{Graph}
use Rattle.game.specs.declared.Game.{Game}
use Rattle.kit_drives.specs.declared.Drive.{Drive}
use Rattle.kit_drives.specs.declared.Kit.{Kit}

-- "for each mode and command the next mode or barred (255)" (SPEC 13.1)
unfoldable pub next_in : List ℕ → ℕ → ℕ → ℕ
next_in n m u = get_or n (16 * m + u) 0

abbrev pub next_mode : Drive → ℕ → ℕ → ℕ
next_mode d m u = next_in d.next m u

-- SPEC 13.1
unfoldable pub allows : Drive → ℕ → ℕ → Bool
allows d m u = ltb u d.commands && not (eqb (next_mode d m u) 255)

-- "A graph move exists where some command makes it." (SPEC 13.1)
unfoldable pub made_by : List ℕ → ℕ → ℕ → ℕ → Bool
made_by n c m t = any c (λ u. eqb (next_in n m u) t)

-- SPEC 13.1
unfoldable pub graph_from : Drive → Graph
graph_from d = record { states = d.modes; initial = d.initial; moves = words_of (rows_of capacity d.modes (made_by d.next d.commands)) }

-- the old drive's modes are the inputs, the new drive's the outputs (SPEC 13.1)
unfoldable pub game_from : Kit → Game
game_from k = record { input = graph_from k.old; output = graph_from k.new; k = k.k; requirements = k.requirements }

-- "the lowest command making the controller's move" (SPEC 13.2)
unfoldable pub command_for : Drive → ℕ → ℕ → ℕ
command_for d m t = least d.commands (λ u. eqb (next_mode d m u) t)

pub record Small (d : Drive) : Type 0 where
  pub modes : d.modes ≤ capacity
  pub commands : d.commands ≤ 16
