-- What the call that explains a position promises, for every input.
--
--   in_game g i o                == (i, o) is a position of the game
--   explain_answer g s i o       == the answer, scratch being of s words
--   explain_tests g s i o        == its tests under their numbers
--   explain_number r             == the number of the refusal r, 0 for a ground
--   scratch_after g n s          == scratch s after an answer with the number n
--   Grounded g i o r            == r tells a ground that explains (i, o)
--   Explained g s s' i o r      == the call answers r and leaves scratch s as s'
use Rattle.std.specs.Prelude.{ℕ, zero, suc, ◌≡◌, Bool, true, false, ◌&&◌, List, [], ◌∷◌, ◌++◌, ltb, leb, length, Result}
use Rattle.game.specs.declared.Game.{Game}
use Rattle.game.specs.declared.InState.{InState}
use Rattle.game.specs.declared.OutState.{OutState}
use Rattle.game.specs.declared.Refusal.{Refusal}
use Rattle.game.specs.declared.Refusal.TheVariants.{ShortScratch, NoPosition}
use Rattle.game.specs.Refusals.{number}
use Rattle.game.specs.Acceptance.{acceptance}
use Rattle.game.specs.Numbers.{first_of, game_tests}
use Rattle.play.specs.Play.{separated_of}
use Rattle.scratch_clearing.specs.Clearing.{cleared}
use Rattle.scratch.specs.Scratch.{scratch_length}
use Rattle.grounds.specs.Ground.{Ground, ground}
use Rattle.grounds.specs.Holds.{Explains}
use Rattle.ground_search.specs.declared.Explanation.{Explanation}
use Rattle.ground_search.specs.Told.{told}
use Rattle.std.specs.declared.result.Result.TheVariants.{Ok, Err}

-- SPEC 14.2
unfoldable pub in_game : Game → InState → OutState → Bool
in_game g i o = ltb i.0 g.input.states && ltb o.0 g.output.states

-- "The first fitting ground in this order is given, lowest numbers first." (SPEC 14.1)
unfoldable pub explain_room : Game → ℕ → InState → OutState → Result Explanation Refusal
explain_room g s i o = elim (leb (scratch_length g) s) [ true ↦ Ok (told (ground (separated_of g) i.0 o.0)) | false ↦ Err ShortScratch ]

-- "New numbers: 25 a position outside the game, after 7 and before 8." (SPEC 14.2)
unfoldable pub explain_position : Game → ℕ → InState → OutState → Result Explanation Refusal
explain_position g s i o = elim (in_game g i o) [ true ↦ explain_room g s i o | false ↦ Err NoPosition ]

unfoldable pub explain_answer : Game → ℕ → InState → OutState → Result Explanation Refusal
explain_answer g s i o = elim (acceptance g) [ Ok u ↦ explain_position g s i o | Err r ↦ Err r ]

-- SPEC 9.1, 14.2
unfoldable pub explain_tests : Game → ℕ → InState → OutState → List (ℕ × Bool)
explain_tests g s i o = game_tests g ++ (25, in_game g i o) ∷ (8, leb (scratch_length g) s) ∷ []

abbrev pub explain_number : Result Explanation Refusal → ℕ
explain_number (Ok x) = 0
explain_number (Err r) = number r

-- "after an answer the first that many words are zero and the rest unchanged" (M-103); "Each returns its number only .. and changes no lent memory" (SPEC 7.5)
unfoldable pub scratch_after : Game → ℕ → List ℕ → List ℕ
scratch_after g zero s = cleared (scratch_length g) s
scratch_after g (suc n) s = s

-- "What the reply names holds with won and lost as 01 defines them, not by a map." (SPEC 14.2)
pub record Grounded (g : Game) (i : InState) (o : OutState) (r : Result Explanation Refusal) : Type 0 where
  pub ground : Ground
  pub tells : r ≡ Ok (told ground)
  pub explains : Explains (separated_of g) i.0 o.0 ground

-- SPEC 14.1
pub record Explained (g : Game) (s s' : List ℕ) (i : InState) (o : OutState) (r : Result Explanation Refusal) : Type 0 where
  pub answer : r ≡ explain_answer g (length s) i o
  pub number : explain_number r ≡ first_of (explain_tests g (length s) i o)
  pub scratch : s' ≡ scratch_after g (explain_number r) s
  pub grounded : explain_number r ≡ 0 → Grounded g i o r
