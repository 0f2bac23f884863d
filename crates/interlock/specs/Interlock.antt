-- What the two entries promise, for every input: b are the words of the bars, scratch is s before and s' after, the map m before and m' after.
--
--   bar_refusals g b s, bar_tests g b s            == the tests of bars and scratch under their refusals and their numbers, scratch being of s words
--   room_refusals g b s m, room_tests g b s m      == those of the map's call, the map being of m words
--   barred_map_tests g b s m                        == all tests of the map's call
--   barred_map_answer g b s m                      == its answer
--   barred_number r                                == document 01's number of the answer r, 0 for a map or a verdict
--   BarredMapAfter g b r m m'                     == on answer r the map m is left as m'
--   BarredMap g b s s' m m' r                     == the map's call answers r and leaves scratch s as s' and the map m as m'
--   verdict_tests g b s                            == all tests of the verdict's call
--   barred_judged a w, barred_verdict_answer g b s w == its answer where a is that of the tests, w telling whether the system wins; its answer
--   BarredJudged g b s s' r                       == the verdict's call answers r and leaves scratch s as s'
--   barred_words                                   == how many words of scratch the calls take
use Rattle.std.specs.Prelude.{ℕ, ◌<◌, ◌≡◌, Bool, true, false, ◌&&◌, List, [], ◌∷◌, ◌++◌, ◌↔◌, leb, length, get_or}
use Rattle.bits.specs.Member.{has}
use Rattle.sets.specs.Words.{sets_in, words_for}
use Rattle.arena.specs.Win.{Won, SystemWins}
use Rattle.theory.specs.Region.{verdict}
use Rattle.game.specs.Refusals.{number}
use Rattle.game.specs.declared.Game.{Game}
use Rattle.game.specs.declared.Refusal.{Refusal}
use Rattle.game.specs.declared.Refusal.TheVariants.{BarOutside, NotOneRequirement, ShortScratch}
use Rattle.game.specs.Acceptance.{Acceptance, first_failing, acceptance}
use Rattle.game.specs.Numbers.{first_of, game_tests}
use Rattle.play.specs.Play.{separated_of}
use Rattle.scratch_clearing.specs.Clearing.{cleared}
use Rattle.map_marks.specs.Marks.{MapFilled}
use Rattle.map_marks.specs.Mapped.{made, Mapped}
use Rattle.map_marks.specs.Answer.{map_number}
use Rattle.barred.specs.Arena.{barred_arena}
use Rattle.interlock.specs.Judged.{Judged}
use Rattle.interlock.specs.declared.Side.TheVariants.{System, Environment}
use Rattle.interlock.specs.Bars.{bars, bars_inside, some_barred, one_requirement, system_wins, BarredFilled}
use Rattle.std.specs.declared.result.Result.TheVariants.{Ok, Err}

abbrev pub barred_words : ℕ
barred_words = 4096

-- "8 a list of bars too short for the inputs .., scratch under 4,096 words" (SPEC 15.3)
unfoldable pub bars_fit : Game → ℕ → ℕ → Bool
bars_fit g b s = leb (words_for g.input.states) b && leb barred_words s

-- SPEC 9.1, 15.3
unfoldable pub bar_refusals : Game → List ℕ → ℕ → List (Refusal × Bool)
bar_refusals g b s = (BarOutside, bars_inside g b) ∷ (NotOneRequirement, one_requirement g b) ∷ (ShortScratch, bars_fit g (length b) s) ∷ []

-- SPEC 9.1, 15.3
unfoldable pub bar_tests : Game → List ℕ → ℕ → List (ℕ × Bool)
bar_tests g b s = (29, bars_inside g b) ∷ (28, one_requirement g b) ∷ (8, bars_fit g (length b) s) ∷ []

-- ---- the map

-- "the map's room" has number 8 too (SPEC 9.1, 15.3)
unfoldable pub room_refusals : Game → List ℕ → ℕ → ℕ → List (Refusal × Bool)
room_refusals g b s m =
    (BarOutside, bars_inside g b)
    ∷ (NotOneRequirement, one_requirement g b)
    ∷ (ShortScratch, bars_fit g (length b) s)
    ∷ (ShortScratch, leb (words_for g.input.states) m)
    ∷ []

-- the same tests once more, their numbers written out (SPEC 9.1, 15.3)
unfoldable pub room_tests : Game → List ℕ → ℕ → ℕ → List (ℕ × Bool)
room_tests g b s m = (29, bars_inside g b) ∷ (28, one_requirement g b) ∷ (8, bars_fit g (length b) s) ∷ (8, leb (words_for g.input.states) m) ∷ []

unfoldable pub barred_map_tests : Game → List ℕ → ℕ → ℕ → List (ℕ × Bool)
barred_map_tests g b s m = game_tests g ++ room_tests g b s m

unfoldable pub barred_map_answer : Game → List ℕ → ℕ → ℕ → Mapped
barred_map_answer g b s m = elim (acceptance g) [ Ok u ↦ first_failing (room_refusals g b s m) | Err r ↦ Err r ]

-- "later words unchanged"; "changes no lent memory" (SPEC 7.6)
unfoldable pub BarredMapAfter : Game → List ℕ → Mapped → List ℕ → List ℕ → Type 0
BarredMapAfter g b (Ok u) m m' = BarredFilled g b m m'
BarredMapAfter g b (Err n) m m' = m' ≡ m

unfoldable pub barred_map_scratch : Mapped → List ℕ → List ℕ
barred_map_scratch (Ok u) s = cleared barred_words s
barred_map_scratch (Err n) s = s

-- SPEC 15.2, 15.3
pub record BarredMap (g : Game) (b s s' m m' : List ℕ) (r : Mapped) : Type 0 where
  pub answer : r ≡ barred_map_answer g b (length s) (length m)
  pub number : map_number r ≡ first_of (barred_map_tests g b (length s) (length m))
  pub map : BarredMapAfter g b r m m'
  pub scratch : s' ≡ barred_map_scratch r s
  -- "a barred pair is never marked won", and a pair that is not barred is marked exactly when it is won (SPEC 15.2)
  pub won : r ≡ made → (i o : ℕ) → i < g.input.states → o < g.output.states
      → (has (get_or (sets_in m') i 0) o ≡ true) ↔ ((bars b i o ≡ false) × Won (barred_arena (separated_of g) (bars b)) i o)
  -- "Without barred pairs the map equals the one we have." (SPEC 15.2)
  pub unbarred : r ≡ made → some_barred b ≡ false → MapFilled g m m'

-- ---- the verdict

unfoldable pub verdict_tests : Game → List ℕ → ℕ → List (ℕ × Bool)
verdict_tests g b s = game_tests g ++ bar_tests g b s

unfoldable pub barred_judged : Acceptance → Bool → Judged
barred_judged (Ok u) w = elim w [ true ↦ Ok System | false ↦ Ok Environment ]
barred_judged (Err r) w = Err r

unfoldable pub barred_verdict_answer : Game → List ℕ → ℕ → Bool → Judged
barred_verdict_answer g b s w = elim (acceptance g) [ Ok u ↦ barred_judged (first_failing (bar_refusals g b s)) w | Err r ↦ Err r ]

abbrev pub barred_number : Judged → ℕ
barred_number (Ok System) = 0
barred_number (Ok Environment) = 0
barred_number (Err r) = number r

unfoldable pub barred_verdict_scratch : Judged → List ℕ → List ℕ
barred_verdict_scratch (Ok System) s = cleared barred_words s
barred_verdict_scratch (Ok Environment) s = cleared barred_words s
barred_verdict_scratch (Err n) s = s

-- SPEC 15.2, 15.3
pub record BarredJudged (g : Game) (b s s' : List ℕ) (r : Judged) : Type 0 where
  pub answer : r ≡ barred_verdict_answer g b (length s) (system_wins g b)
  pub number : barred_number r ≡ first_of (verdict_tests g b (length s))
  pub scratch : s' ≡ barred_verdict_scratch r s
  pub system : r ≡ Ok System → SystemWins (barred_arena (separated_of g) (bars b))
  pub environment : r ≡ Ok Environment → SystemWins (barred_arena (separated_of g) (bars b)) → ⊥
  -- without barred pairs it is the verdict that we have
  pub unbarred : some_barred b ≡ false → r ≡ barred_verdict_answer g b (length s) (verdict (separated_of g))
