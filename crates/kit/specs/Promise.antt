-- What the kit's solver promises, for every input.
--
--   kit_answer k s c e t        == its answer, scratch being of s words, the controller's room of c entries, the panel's of e and the kit's of t
--   solve_kit_tests k s c e t    == its tests under their numbers
--   solver_answer k r           == the solver's answer to the kit's game, where the kit's is r
--   kit_after k r t             == the kit's room, t before
--   KitKept k r t              == what the kit's table is for, read from the front of the room t
--   KitSolved k s s' c c' e e' t t' r    == it answers r and leaves scratch s as s', the controller's room c as c', the panel's e as e', the kit's t as t'
use Rattle.std.specs.Prelude.{ℕ, ◌≡◌, Bool, true, false, ◌&&◌, List, [], ◌∷◌, ◌++◌, leb, length, take, drop}
use Rattle.game.specs.Numbers.{first_of}
use Rattle.play.specs.Play.{separated_of}
use Rattle.theory.specs.Region.{verdict}
use Rattle.theory.specs.Entries.{controller_entries}
use Rattle.scratch.specs.Scratch.{scratch_length}
use Rattle.solver.specs.Verdict.{Verdict}
use Rattle.solver.specs.declared.Winner.TheVariants.{System, Environment}
use Rattle.solver.specs.Promise.{controller_length, environment_length, verdict_number, controller_after, environment_after, verdict_scratch, Decided}
use Rattle.kit_drives.specs.declared.Kit.{Kit}
use Rattle.kit_drives.specs.Drive.{game_from}
use Rattle.kit_drives.specs.Acceptance.{kit_acceptance, kit_tests}
use Rattle.kit_rows.specs.Rows.{kit_length, kit_entries}
use Rattle.kit_runs.specs.Exchange.{Exchanged}
use Rattle.std.specs.declared.result.Result.TheVariants.{Ok, Err}
use Rattle.game.specs.declared.Refusal.TheVariants.{ShortController, ShortPanel, ShortScratch}

-- the side that wins, with the length of what is handed over: the kit's table or the panel's
unfoldable pub kit_named : Kit → Verdict
kit_named k = elim (verdict (separated_of (game_from k))) [ true ↦ Ok (System (kit_length k)) | false ↦ Ok (Environment (environment_length (game_from k))) ]

unfoldable pub kit_environment_tested : Kit → ℕ → Verdict
kit_environment_tested k e = elim (leb (environment_length (game_from k)) e) [ true ↦ kit_named k | false ↦ Err ShortPanel ]

-- "9 also covers a kit's room too short, whoever wins." (SPEC 13.4)
unfoldable pub kit_rooms_tested : Kit → ℕ → ℕ → ℕ → Verdict
kit_rooms_tested k c e t =
    elim (leb (controller_length (game_from k)) c && leb (kit_length k) t) [ true ↦ kit_environment_tested k e | false ↦ Err ShortController ]

-- "The kit and later calls that take scratch and name no length keep this rule." (document 02, M-103) (SPEC 7.5)
unfoldable pub kit_scratch_tested : Kit → ℕ → ℕ → ℕ → ℕ → Verdict
kit_scratch_tested k s c e t = elim (leb (scratch_length (game_from k)) s) [ true ↦ kit_rooms_tested k c e t | false ↦ Err ShortScratch ]

unfoldable pub kit_answer : Kit → ℕ → ℕ → ℕ → ℕ → Verdict
kit_answer k s c e t = elim (kit_acceptance k) [ Ok u ↦ kit_scratch_tested k s c e t | Err n ↦ Err n ]

-- SPEC 9.1, 13.4
unfoldable pub solve_kit_tests : Kit → ℕ → ℕ → ℕ → ℕ → List (ℕ × Bool)
solve_kit_tests k s c e t =
    kit_tests k
    ++ (8, leb (scratch_length (game_from k)) s) ∷ (9, leb (controller_length (game_from k)) c && leb (kit_length k) t)
    ∷ (10, leb (environment_length (game_from k)) e) ∷ []

-- "the other rooms are as the solver leaves them" (SPEC 13.4)
unfoldable pub solver_answer : Kit → Verdict → Verdict
solver_answer k (Ok (System n)) = Ok (System (controller_length (game_from k)))
solver_answer k (Ok (Environment n)) = Ok (Environment n)
solver_answer k (Err n) = Err n

-- "The rest of the kit's room is unchanged, all of it where the panel wins" (SPEC 13.4)
unfoldable pub kit_after : Kit → Verdict → List ℕ → List ℕ
kit_after k (Ok (System n)) t = kit_entries k (controller_entries (separated_of (game_from k))) ++ drop n t
kit_after k (Ok (Environment n)) t = t
kit_after k (Err n) t = t

-- SPEC 13.3
unfoldable pub KitKept : Kit → Verdict → List ℕ → Type 0
KitKept k (Ok (System n)) t = Exchanged k (take n t)
KitKept k (Ok (Environment n)) t = Unit {0}
KitKept k (Err n) t = Unit {0}

-- SPEC 13.3, 13.4
pub record KitSolved (k : Kit) (s s' c c' e e' t t' : List ℕ) (r : Verdict) : Type 0 where
  pub answer : r ≡ kit_answer k (length s) (length c) (length e) (length t)
  pub number : verdict_number r ≡ first_of (solve_kit_tests k (length s) (length c) (length e) (length t))
  pub scratch : s' ≡ verdict_scratch (game_from k) r s
  pub controller : c' ≡ controller_after (game_from k) (solver_answer k r) c
  pub environment : e' ≡ environment_after (game_from k) r e
  pub kit : t' ≡ kit_after k r t
  pub demand : Decided (game_from k) (solver_answer k r) c' e'
  pub kept : KitKept k r t'
