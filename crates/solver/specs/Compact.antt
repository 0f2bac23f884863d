-- What the solver promises, for every input, where it writes the controller's table with its rows by component. "The solver can write this layout directly,
-- and every row read from it equals the row of the old one."
--
--   compact_answer g s c e     == the answer of the solver, scratch being of s words and the buffers of c and e entries
--   compact_tests g s c e      == its tests under their numbers
--   compact_after g r c        == the controller's buffer, c before, after the answer r
--   DecidedCompact g r c e    == demand 3 for the answer r, the buffers then being c and e, the controller's read through the layout
--   EqualRows g r c           == every row read from the controller's buffer c is that of the full layout
--   SolvedCompact g s s' c c' e e' r == the solver answers r and leaves scratch s as s', the controller's buffer c as c' and the environment's e as e'
use Rattle.std.specs.Prelude.{ℕ, ◌<◌, ◌≡◌, Bool, true, false, List, [], ◌∷◌, ◌++◌, leb, length, take, drop}
use Rattle.arena.specs.Win.{system, environment, DemandThree}
use Rattle.game.specs.declared.Game.{Game}
use Rattle.game.specs.Acceptance.{acceptance}
use Rattle.game.specs.Numbers.{first_of, game_tests}
use Rattle.play.specs.Play.{separated_of}
use Rattle.theory.specs.Region.{verdict}
use Rattle.theory.specs.Entries.{controller_counters, controller_entries}
use Rattle.demands.specs.Demands.{play_of, environment_of}
use Rattle.compact.specs.Compact.{compact_length, compact_entries, compact_row, full_row, compact_table}
use Rattle.scratch.specs.Scratch.{scratch_length}
use Rattle.solver.specs.Verdict.{Verdict}
use Rattle.solver.specs.declared.Winner.TheVariants.{System, Environment}
use Rattle.solver.specs.Promise.{environment_length, verdict_number, environment_after, verdict_scratch}
use Rattle.std.specs.declared.result.Result.TheVariants.{Ok, Err}
use Rattle.game.specs.declared.Refusal.TheVariants.{ShortController, ShortPanel, ShortScratch}

-- the side that wins, with the length of its table
unfoldable pub compact_named : Game → Verdict
compact_named g = elim (verdict (separated_of g)) [ true ↦ Ok (System (compact_length (separated_of g))) | false ↦ Ok (Environment (environment_length g)) ]

-- the same tests in the same order, 9 by the length of the layout that is written
unfoldable pub compact_environment_tested : Game → ℕ → Verdict
compact_environment_tested g e = elim (leb (environment_length g) e) [ true ↦ compact_named g | false ↦ Err ShortPanel ]

unfoldable pub compact_controller_tested : Game → ℕ → ℕ → Verdict
compact_controller_tested g c e = elim (leb (compact_length (separated_of g)) c) [ true ↦ compact_environment_tested g e | false ↦ Err ShortController ]

unfoldable pub compact_scratch_tested : Game → ℕ → ℕ → ℕ → Verdict
compact_scratch_tested g s c e = elim (leb (scratch_length g) s) [ true ↦ compact_controller_tested g c e | false ↦ Err ShortScratch ]

unfoldable pub compact_answer : Game → ℕ → ℕ → ℕ → Verdict
compact_answer g s c e = elim (acceptance g) [ Ok u ↦ compact_scratch_tested g s c e | Err n ↦ Err n ]

-- SPEC 9.1, 9.3
unfoldable pub compact_tests : Game → ℕ → ℕ → ℕ → List (ℕ × Bool)
compact_tests g s c e =
    game_tests g ++ (8, leb (scratch_length g) s) ∷ (9, leb (compact_length (separated_of g)) c) ∷ (10, leb (environment_length g) e) ∷ []

-- "On a verdict the answer is the filled front of one of two lent rooms; the rest of that room and all of the other stay unchanged." (SPEC 7.4)
unfoldable pub compact_after : Game → Verdict → List ℕ → List ℕ
compact_after g (Ok (System n)) c = compact_entries (separated_of g) ++ drop n c
compact_after g (Ok (Environment n)) c = c
compact_after g (Err n) c = c

-- Demand 3 for this game: the table read through its layout from the filled front wins for the side named, and no table of any finite size wins for the
-- other. (SPEC 3.5, 11.2)
unfoldable pub DecidedCompact : Game → Verdict → List ℕ → List ℕ → Type 0
DecidedCompact g (Ok (System n)) c e = DemandThree (play_of g) (system (compact_table (separated_of g) (take n c)))
DecidedCompact g (Ok (Environment n)) c e = DemandThree (play_of g) (environment (environment_of g (take n e)))
DecidedCompact g (Err n) c e = Unit {0}

-- "every row read from it equals the row of the old one" (SPEC 11.2)
unfoldable pub EqualRows : Game → Verdict → List ℕ → Type 0
EqualRows g (Ok (System n)) c = (o h j : ℕ) → o < g.output.states → h < controller_counters (separated_of g) → j < g.input.states
    → compact_row (separated_of g) c o h j ≡ full_row (separated_of g) (controller_entries (separated_of g)) o h j
EqualRows g (Ok (Environment n)) c = Unit {0}
EqualRows g (Err n) c = Unit {0}

-- SPEC 11.2
pub record SolvedCompact (g : Game) (s s' c c' e e' : List ℕ) (r : Verdict) : Type 0 where
  pub answer : r ≡ compact_answer g (length s) (length c) (length e)
  pub number : verdict_number r ≡ first_of (compact_tests g (length s) (length c) (length e))
  pub scratch : s' ≡ verdict_scratch g r s
  pub controller : c' ≡ compact_after g r c
  pub environment : e' ≡ environment_after g r e
  pub demand : DecidedCompact g r c' e'
  pub rows : EqualRows g r c'
