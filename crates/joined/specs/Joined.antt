-- What the entry promises, for every input.
--
--   joined_answer g s m        == the answer of the call, scratch being of s words and the map of m
--   joined_tests g s m         == its tests under their numbers
--   JoinedMade g s s' m m' r  == the call answers r and leaves scratch s as s' and the map m as m'
use Rattle.std.specs.Prelude.{ℕ, ◌<◌, ◌≡◌, Bool, true, false, ◌&&◌, List, [], ◌∷◌, ◌++◌, ◌↔◌, leb, length, get_or}
use Rattle.bits.specs.Member.{has}
use Rattle.sets.specs.Words.{sets_in, words_for}
use Rattle.arena.specs.Win.{Won}
use Rattle.game.specs.declared.Game.{Game}
use Rattle.game.specs.Acceptance.{acceptance}
use Rattle.game.specs.Numbers.{first_of, game_tests}
use Rattle.demands.specs.Demands.{play_of}
use Rattle.scratch_clearing.specs.Clearing.{cleared}
use Rattle.map_marks.specs.Mapped.{made, Mapped}
use Rattle.map_marks.specs.Answer.{map_number, MapAfter}
use Rattle.joined_reach.specs.Words.{joined_words}
use Rattle.std.specs.declared.result.Result.TheVariants.{Ok, Err}
use Rattle.game.specs.declared.Refusal.TheVariants.{ShortScratch, TooManyStates}

-- "24 a count over 32, after 7 and before 8" (document 02, M-108) (SPEC 14.3)
unfoldable pub counts_small : Game → Bool
counts_small g = leb g.input.states 32 && leb g.output.states 32

-- "Its scratch is 4,096 words, under the same rules."; "or, where the call writes the map, map room under one word an input" (SPEC 14.3)
unfoldable pub joined_fits : Game → ℕ → ℕ → Bool
joined_fits g s m = leb joined_words s && leb (words_for g.input.states) m

unfoldable pub joined_room : Game → ℕ → ℕ → Mapped
joined_room g s m = elim (joined_fits g s m) [ true ↦ made | false ↦ Err ShortScratch ]

unfoldable pub joined_size : Game → ℕ → ℕ → Mapped
joined_size g s m = elim (counts_small g) [ true ↦ joined_room g s m | false ↦ Err TooManyStates ]

unfoldable pub joined_answer : Game → ℕ → ℕ → Mapped
joined_answer g s m = elim (acceptance g) [ Ok u ↦ joined_size g s m | Err n ↦ Err n ]

-- SPEC 9.1, 14.3
unfoldable pub joined_tests : Game → ℕ → ℕ → List (ℕ × Bool)
joined_tests g s m = game_tests g ++ (24, counts_small g) ∷ (8, joined_fits g s m) ∷ []

-- "after an answer the first that many words are zero and the rest unchanged"; "Each returns its number only .. and changes no lent memory" (SPEC 7.5, 14.3)
unfoldable pub joined_scratch : Mapped → List ℕ → List ℕ
joined_scratch (Ok u) s = cleared joined_words s
joined_scratch (Err n) s = s

-- SPEC 14.3
pub record JoinedMade (g : Game) (s s' m m' : List ℕ) (r : Mapped) : Type 0 where
  pub answer : r ≡ joined_answer g (length s) (length m)
  pub number : map_number r ≡ first_of (joined_tests g (length s) (length m))
  -- "Its won map equals ours on every game both accept, dead ends included." (SPEC 14.3)
  pub map : MapAfter g r m m'
  pub scratch : s' ≡ joined_scratch r s
  pub won : r ≡ made → (i o : ℕ) → i < g.input.states → o < g.output.states → (has (get_or (sets_in m') i 0) o ≡ true) ↔ Won (play_of g) i o
