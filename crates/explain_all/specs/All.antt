-- What the call that explains all positions promises, for every input.
--
--   positions g                  == how many positions the game has
--   position_entry g p            == the entry of position number p: (i, o) has the number i * outputs + o
--   all_answer g s m              == the answer, scratch being of s words and the room of m entries
--   all_tests g s m               == its tests under their numbers
--   grounds_after g r m           == the room m after the answer r
--   ExplainedAll g s s' m m' r   == the call answers r and leaves scratch s as s' and the room m as m'
use Rattle.std.specs.Prelude.{ℕ, ◌+◌, ◌*◌, ◌/◌, ◌%◌, ◌<◌, ◌≡◌, Bool, true, false, ◌&&◌, List, [], ◌∷◌, ◌++◌, leb, length, get_or, drop}
use Rattle.finite.specs.Tabulate.{tabulate}
use Rattle.game.specs.declared.Game.{Game}
use Rattle.game.specs.Acceptance.{acceptance}
use Rattle.game.specs.Numbers.{first_of, game_tests}
use Rattle.play.specs.Play.{separated_of}
use Rattle.scratch.specs.Scratch.{scratch_length}
use Rattle.map_marks.specs.Mapped.{made, Mapped}
use Rattle.map_marks.specs.Answer.{map_number}
use Rattle.map.specs.Map.{map_scratch}
use Rattle.grounds.specs.Ground.{ground}
use Rattle.grounds.specs.Holds.{Explains}
use Rattle.explain_all.specs.Entry.{ground_entry, entry_ground}
use Rattle.std.specs.declared.result.Result.TheVariants.{Ok, Err}
use Rattle.game.specs.declared.Refusal.TheVariants.{ShortScratch}

unfoldable pub positions : Game → ℕ
positions g = g.input.states * g.output.states

-- SPEC 14.6
unfoldable pub position_entry : Game → ℕ → ℕ
position_entry g p = ground_entry (ground (separated_of g) (p / g.output.states) (p % g.output.states))

-- "Number 8 is given below that length" (M-103), and where the room has less than an entry a position (SPEC 14.6)
unfoldable pub all_fits : Game → ℕ → ℕ → Bool
all_fits g s m = leb (scratch_length g) s && leb (positions g) m

unfoldable pub all_room : Game → ℕ → ℕ → Mapped
all_room g s m = elim (all_fits g s m) [ true ↦ made | false ↦ Err ShortScratch ]

unfoldable pub all_answer : Game → ℕ → ℕ → Mapped
all_answer g s m = elim (acceptance g) [ Ok u ↦ all_room g s m | Err n ↦ Err n ]

-- SPEC 9.1, 14.6
unfoldable pub all_tests : Game → ℕ → ℕ → List (ℕ × Bool)
all_tests g s m = game_tests g ++ (8, all_fits g s m) ∷ []

-- an entry a position, the rest unchanged; "Each returns its number only .. and changes no lent memory" (SPEC 14.6)
unfoldable pub grounds_after : Game → Mapped → List ℕ → List ℕ
grounds_after g (Ok u) m = tabulate (positions g) (position_entry g) ++ drop (positions g) m
grounds_after g (Err n) m = m

-- `explains`: what is read from the entry of a position "holds with won and lost as 01 defines them, not by a map" (SPEC 14.6)
pub record ExplainedAll (g : Game) (s s' m m' : List ℕ) (r : Mapped) : Type 0 where
  pub answer : r ≡ all_answer g (length s) (length m)
  pub number : map_number r ≡ first_of (all_tests g (length s) (length m))
  pub scratch : s' ≡ map_scratch g r s
  pub grounds : m' ≡ grounds_after g r m
  pub explains : r ≡ made → (i o : ℕ) → i < g.input.states → o < g.output.states
      → Explains (separated_of g) i o (entry_ground (get_or m' (i * g.output.states + o) 0))
