-- The rows of a controller's table in the compact layout, for dimensions and numbers of any size.
--
--   rank_entry l I M C o g c      == the entry of output o, counter g and rank c in the list l; none where no component has that rank
--   compact_entry l I M C o g j   == the entry of the row of output o, counter g and new input j, M being the counters and C the components; none where a
--                                   table for I inputs has no such row
--   Ranked G l I M C             == a table of the game G, I inputs, M counters and C components, whose ranks in l are the game's
--   Looked l I M C o g j r       == r is that entry; of a game's table it is the row of the full layout
use Rattle.std.specs.Prelude.{ℕ, ◌+◌, ◌*◌, ◌<◌, ◌≡◌, true, false, ◌&&◌, List, ltb, leb, get_or}
use Rattle.game.specs.declared.Game.{Game}
use Rattle.game.specs.Acceptance.{accepted, acceptance}
use Rattle.play.specs.Play.{separated_of}
use Rattle.theory.specs.Entries.{none_entry, controller_counters}
use Rattle.compact.specs.Rank.{component_count}
use Rattle.compact.specs.Compact.{full_row}
use Rattle.compact.specs.Moving.{from_compact, ranks_fit}
use Rattle.view.specs.Rows.{in_range}

-- "then rows by output, counter and component" (SPEC 11.1)
unfoldable pub rank_entry : List ℕ → (I M C o g c : ℕ) → ℕ
rank_entry l I M C o g c = elim (ltb c C) [ true ↦ get_or l (I + (I + ((o * M + g) * C + c))) none_entry | false ↦ none_entry ]

-- "starts as before, then the component's rank for each input": there are no more components than inputs (SPEC 9.5, 11.2)
unfoldable pub compact_entry : List ℕ → (I M C o g j : ℕ) → ℕ
compact_entry l I M C o g j = elim (in_range I M o g j && leb C I) [ true ↦ rank_entry l I M C o g (get_or l (I + j) none_entry) | false ↦ none_entry ]

pub record Ranked (G : Game) (l : List ℕ) (I M C : ℕ) : Type 0 where
  pub accepted : acceptance G ≡ accepted
  pub inputs : I ≡ G.input.states
  pub counters : M ≡ controller_counters (separated_of G)
  pub components : C ≡ component_count (separated_of G)
  pub ranks : ranks_fit (separated_of G) l ≡ true

-- "every row read from it equals the row of the old one" (SPEC 11.2)
pub record Looked (l : List ℕ) (I M C o g j r : ℕ) : Type 0 where
  pub entry : r ≡ compact_entry l I M C o g j
  pub row : (G : Game) → Ranked G l I M C → o < G.output.states → g < M → j < I
      → r ≡ full_row (separated_of G) (from_compact (separated_of G) l) o g j
