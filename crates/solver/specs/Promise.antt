-- What the solver promises, for every input.
--
--   controller_length g, environment_length g    == how many entries the two tables have
--   verdict_answer g s c e     == the answer of the solver, scratch being of s words and the buffers of c and e entries
--   solve_tests g s c e        == its tests under their numbers
--   verdict_number r           == document 01's number of the answer r, 0 for a verdict
--   Decided g r c e           == demand 3 for the answer r, the buffers then being c and e
--   Solved g s s' c c' e e' r == the solver answers r and leaves scratch s as s', the controller's buffer c as c' and the environment's e as e'
use Rattle.std.specs.Prelude.{ℕ, ◌+◌, ◌*◌, ◌≡◌, Bool, true, false, List, [], ◌∷◌, ◌++◌, leb, length, take, drop}
use Rattle.arena.specs.Win.{system, environment, DemandThree}
use Rattle.game.specs.Refusals.{number}
use Rattle.game.specs.declared.Game.{Game}
use Rattle.game.specs.Acceptance.{acceptance}
use Rattle.game.specs.Numbers.{first_of, game_tests}
use Rattle.play.specs.Play.{separated_of}
use Rattle.theory.specs.Region.{verdict}
use Rattle.theory.specs.Entries.{controller_counters, environment_counters, controller_entries, environment_entries}
use Rattle.demands.specs.Demands.{play_of, controller_of, environment_of}
use Rattle.solver.specs.Verdict.{Verdict}
use Rattle.solver.specs.declared.Winner.TheVariants.{System, Environment}
use Rattle.scratch_clearing.specs.Clearing.{cleared}
use Rattle.scratch.specs.Scratch.{scratch_length}
use Rattle.std.specs.declared.result.Result.TheVariants.{Ok, Err}
use Rattle.game.specs.declared.Refusal.TheVariants.{ShortController, ShortPanel, ShortScratch}

-- "inputs + outputs × max(1, G) × inputs entries"; "1 + inputs × max(1, H) × outputs entries" (SPEC 7.2)
unfoldable pub controller_length : Game → ℕ
controller_length g = g.input.states + g.output.states * controller_counters (separated_of g) * g.input.states

-- SPEC 7.3
unfoldable pub environment_length : Game → ℕ
environment_length g = 1 + g.input.states * environment_counters (separated_of g) * g.output.states

-- the side that wins, with the length of its table
unfoldable pub named : Game → Verdict
named g = elim (verdict (separated_of g)) [ true ↦ Ok (System (controller_length g)) | false ↦ Ok (Environment (environment_length g)) ]

-- "Number 8 is given below that length" (document 02, M-103); "9 controller room too short and 10 panel room too short, each tried whoever wins" (SPEC 9.3)
unfoldable pub environment_tested : Game → ℕ → Verdict
environment_tested g e = elim (leb (environment_length g) e) [ true ↦ named g | false ↦ Err ShortPanel ]

-- SPEC 9.3
unfoldable pub controller_tested : Game → ℕ → ℕ → Verdict
controller_tested g c e = elim (leb (controller_length g) c) [ true ↦ environment_tested g e | false ↦ Err ShortController ]

-- SPEC 9.3
unfoldable pub scratch_tested : Game → ℕ → ℕ → ℕ → Verdict
scratch_tested g s c e = elim (leb (scratch_length g) s) [ true ↦ controller_tested g c e | false ↦ Err ShortScratch ]

unfoldable pub verdict_answer : Game → ℕ → ℕ → ℕ → Verdict
verdict_answer g s c e = elim (acceptance g) [ Ok u ↦ scratch_tested g s c e | Err n ↦ Err n ]

-- SPEC 9.1, 9.3
unfoldable pub solve_tests : Game → ℕ → ℕ → ℕ → List (ℕ × Bool)
solve_tests g s c e = game_tests g ++ (8, leb (scratch_length g) s) ∷ (9, leb (controller_length g) c) ∷ (10, leb (environment_length g) e) ∷ []

abbrev pub verdict_number : Verdict → ℕ
verdict_number (Ok (System n)) = 0
verdict_number (Ok (Environment n)) = 0
verdict_number (Err r) = number r

-- "On a verdict the answer is the filled front of one of two lent rooms; the rest of that room and all of the other stay unchanged." (SPEC 7.4)
unfoldable pub controller_after : Game → Verdict → List ℕ → List ℕ
controller_after g (Ok (System n)) c = controller_entries (separated_of g) ++ drop n c
controller_after g (Ok (Environment n)) c = c
controller_after g (Err n) c = c

-- SPEC 7.4
unfoldable pub environment_after : Game → Verdict → List ℕ → List ℕ
environment_after g (Ok (System n)) e = e
environment_after g (Ok (Environment n)) e = environment_entries (separated_of g) ++ drop n e
environment_after g (Err n) e = e

-- "after an answer the first that many words are zero and the rest unchanged" (SPEC 7.5)
unfoldable pub verdict_scratch : Game → Verdict → List ℕ → List ℕ
verdict_scratch g (Ok (System n)) s = cleared (scratch_length g) s
verdict_scratch g (Ok (Environment n)) s = cleared (scratch_length g) s
verdict_scratch g (Err n) s = s

-- Demand 3 for this game: the table read from the filled front wins for the side named, and no table of any finite size wins for the other. (SPEC 3.5)
unfoldable pub Decided : Game → Verdict → List ℕ → List ℕ → Type 0
Decided g (Ok (System n)) c e = DemandThree (play_of g) (system (controller_of g (take n c)))
Decided g (Ok (Environment n)) c e = DemandThree (play_of g) (environment (environment_of g (take n e)))
Decided g (Err n) c e = Unit {0}

-- SPEC 3.5, 7.4, 7.5
pub record Solved (g : Game) (s s' c c' e e' : List ℕ) (r : Verdict) : Type 0 where
  pub answer : r ≡ verdict_answer g (length s) (length c) (length e)
  pub number : verdict_number r ≡ first_of (solve_tests g (length s) (length c) (length e))
  pub scratch : s' ≡ verdict_scratch g r s
  pub controller : c' ≡ controller_after g r c
  pub environment : e' ≡ environment_after g r e
  pub demand : Decided g r c' e'
