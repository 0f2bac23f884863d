-- What the map's call promises, for every input.
--
--   map_answer g s m           == the answer of the map's call, scratch being of s words and the map of m
--   map_tests g s m            == its tests under their numbers
--   MapMade g s s' m m' r     == the map's call answers r and leaves scratch s as s' and the map m as m'
use Rattle.std.specs.Prelude.{ℕ, ◌<◌, ◌≡◌, Bool, true, false, ◌&&◌, List, [], ◌∷◌, ◌++◌, ◌↔◌, leb, length, get_or}
use Rattle.bits.specs.Member.{has}
use Rattle.sets.specs.Words.{sets_in, words_for}
use Rattle.arena.specs.Win.{Won}
use Rattle.game.specs.declared.Game.{Game}
use Rattle.game.specs.Acceptance.{acceptance}
use Rattle.game.specs.Numbers.{first_of, game_tests}
use Rattle.demands.specs.Demands.{play_of}
use Rattle.scratch_clearing.specs.Clearing.{cleared}
use Rattle.scratch.specs.Scratch.{scratch_length}
use Rattle.map_marks.specs.Mapped.{made, Mapped}
use Rattle.map_marks.specs.Answer.{map_number, MapAfter}
use Rattle.std.specs.declared.result.Result.TheVariants.{Ok, Err}
use Rattle.game.specs.declared.Refusal.TheVariants.{ShortScratch}

-- "Number 8 is given below that length" (document 02, M-103); "or, where the call writes the map, map room under one word an input" (SPEC 9.3)
unfoldable pub map_fits : Game → ℕ → ℕ → Bool
map_fits g s m = leb (scratch_length g) s && leb (words_for g.input.states) m

unfoldable pub map_room : Game → ℕ → ℕ → Mapped
map_room g s m = elim (map_fits g s m) [ true ↦ made | false ↦ Err ShortScratch ]

unfoldable pub map_answer : Game → ℕ → ℕ → Mapped
map_answer g s m = elim (acceptance g) [ Ok u ↦ map_room g s m | Err n ↦ Err n ]

-- SPEC 9.1, 9.3
unfoldable pub map_tests : Game → ℕ → ℕ → List (ℕ × Bool)
map_tests g s m = game_tests g ++ (8, map_fits g s m) ∷ []

-- "after an answer the first that many words are zero and the rest unchanged"; "Each returns its number only .. and changes no lent memory" (SPEC 7.5)
unfoldable pub map_scratch : Game → Mapped → List ℕ → List ℕ
map_scratch g (Ok u) s = cleared (scratch_length g) s
map_scratch g (Err n) s = s

-- SPEC 4.5, 7.5, 7.6
pub record MapMade (g : Game) (s s' m m' : List ℕ) (r : Mapped) : Type 0 where
  pub answer : r ≡ map_answer g (length s) (length m)
  pub number : map_number r ≡ first_of (map_tests g (length s) (length m))
  pub map : MapAfter g r m m'
  pub scratch : s' ≡ map_scratch g r s
  pub won : r ≡ made → (i o : ℕ) → i < g.input.states → o < g.output.states → (has (get_or (sets_in m') i 0) o ≡ true) ↔ Won (play_of g) i o
