-- What is claimed of the layouts.
--
--   Same A T U               == two tables with the same memory values, starts and steps, for the arena's inputs and outputs
--   full_table S l          == the list l in the full layout read as a controller's table
--   RowsByComponent g        == the claims of a game
use Rattle.std.specs.Prelude.{ℕ, ◌<◌, ◌≡◌, true, List, ◌↔◌, length, get_or}
use Rattle.graphs.specs.Component.{joined, number}
use Rattle.arena.specs.Arena.{Arena, Separated}
use Rattle.arena.specs.Table.{ControllerTable}
use Rattle.arena.specs.Win.{ControllerWins, DemandThree}
use Rattle.game.specs.declared.Game.{Game}
use Rattle.play.specs.Play.{separated_of}
use Rattle.theory.specs.Choice.{controller_row}
use Rattle.theory.specs.Entries.{none_entry, controller_counters, controller_entries, controller_table}
use Rattle.demands.specs.Demands.{play_of}
use Rattle.compact.specs.Rank.{component_count, rank_of, leader_of}
use Rattle.compact.specs.Compact.{compact_length, compact_entries, full_row, compact_row, compact_table, compact_outcome}
use Rattle.compact.specs.Moving.{to_compact, from_compact, full_fits, compact_fits, ranks_fit, rows_fit}

-- Past the counts a list is read at the places of other rows, and the two layouts differ there; no walk comes to it.
pub record Same (A : Arena) (T U : ControllerTable) : Type 0 where
  pub memories : T.memories ≡ U.memories
  pub starts : (i : ℕ) → i < A.inputs → T.start i ≡ U.start i
  pub steps : (m o j : ℕ) → m < U.memories → o < A.outputs → j < A.inputs → T.step m o j ≡ U.step m o j

unfoldable pub full_table : Separated → List ℕ → ControllerTable
full_table S l = controller_table S.input.states (controller_counters S) l

-- an input, an output and a counter of the game
abbrev pub Input : Separated → ℕ → Type 0
Input S j = j < S.input.states

abbrev pub Output : Separated → ℕ → Type 0
Output S o = o < S.output.states

abbrev pub Counter : Separated → ℕ → Type 0
Counter S g = g < controller_counters S

-- SPEC 11.1, 11.2, 11.3
pub record RowsByComponent (G : Game) : Type 0 where
  -- "A controller row depends on the new input only through its component" (SPEC 11.1)
  pub depends : (o g j k : ℕ) → Output (separated_of G) o → joined (separated_of G).input j k ≡ true
      → controller_row (separated_of G) o g j ≡ controller_row (separated_of G) o g k
  -- "Components rank from 0 by smallest state." (SPEC 11.1)
  pub below : (j : ℕ) → Input (separated_of G) j → rank_of (separated_of G) j < component_count (separated_of G)
  pub together : (j k : ℕ) → Input (separated_of G) j → Input (separated_of G) k
      → (rank_of (separated_of G) j ≡ rank_of (separated_of G) k) ↔ (joined (separated_of G).input j k ≡ true)
  pub taken : (c : ℕ) → c < component_count (separated_of G)
      → Input (separated_of G) (leader_of (separated_of G) c) × (rank_of (separated_of G) (leader_of (separated_of G) c) ≡ c)
  pub smallest : (j : ℕ) → Input (separated_of G) j → leader_of (separated_of G) (rank_of (separated_of G) j) ≡ number (separated_of G).input j
  pub rises : (c d : ℕ) → c < d → d < component_count (separated_of G) → leader_of (separated_of G) c < leader_of (separated_of G) d
  -- "The solver can write this layout directly, and every row read from it equals the row of the old one." (SPEC 11.2)
  pub entries : length (compact_entries (separated_of G)) ≡ compact_length (separated_of G)
  pub starts : (i : ℕ) → Input (separated_of G) i
      → get_or (compact_entries (separated_of G)) i none_entry ≡ get_or (controller_entries (separated_of G)) i none_entry
  pub rows : (o g j : ℕ) → Output (separated_of G) o → Counter (separated_of G) g → Input (separated_of G) j
      → compact_row (separated_of G) (compact_entries (separated_of G)) o g j ≡ full_row (separated_of G) (controller_entries (separated_of G)) o g j
  pub same : Same (play_of G) (full_table (separated_of G) (controller_entries (separated_of G)))
      (compact_table (separated_of G) (compact_entries (separated_of G)))
  -- demand 3 of the table read through the compact layout
  pub demand : DemandThree (play_of G) (compact_outcome (separated_of G))
  -- "Stored tables are moved both ways": what the solver writes in one layout, moved, is what it writes in the other (SPEC 11.3)
  pub over : to_compact (separated_of G) (controller_entries (separated_of G)) ≡ compact_entries (separated_of G)
  pub back : from_compact (separated_of G) (compact_entries (separated_of G)) ≡ controller_entries (separated_of G)
  -- "and over and back or back and over is the same table", for every list that is not refused (SPEC 11.3)
  pub over_and_back : (l : List ℕ) → full_fits (separated_of G) l ≡ true → rows_fit (separated_of G) l ≡ true
      → from_compact (separated_of G) (to_compact (separated_of G) l) ≡ l
  pub back_and_over : (l : List ℕ) → compact_fits (separated_of G) l ≡ true → ranks_fit (separated_of G) l ≡ true
      → to_compact (separated_of G) (from_compact (separated_of G) l) ≡ l
  -- what has been moved is not refused on the way back
  pub over_fits : (l : List ℕ)
      → (compact_fits (separated_of G) (to_compact (separated_of G) l) ≡ true) × (ranks_fit (separated_of G) (to_compact (separated_of G) l) ≡ true)
  pub back_fits : (l : List ℕ) → ranks_fit (separated_of G) l ≡ true
      → (full_fits (separated_of G) (from_compact (separated_of G) l) ≡ true) × (rows_fit (separated_of G) (from_compact (separated_of G) l) ≡ true)
  -- a stored table that wins still wins when it is moved
  pub wins_over : (l : List ℕ) → rows_fit (separated_of G) l ≡ true → ControllerWins (play_of G) (full_table (separated_of G) l)
      → ControllerWins (play_of G) (compact_table (separated_of G) (to_compact (separated_of G) l))
  pub wins_back : (l : List ℕ) → ControllerWins (play_of G) (compact_table (separated_of G) l)
      → ControllerWins (play_of G) (full_table (separated_of G) (from_compact (separated_of G) l))
