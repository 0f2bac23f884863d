-- What the solver answers, case by case.
use Prim.Native.Nat.{ℕ, ◌≤◌, ◌<◌}
use mathlib.Core.Path.{◌≡◌, refl, sym, ◌∙◌, ap, subst, subst⁻¹}
use mathlib.Core.Bool.{Bool, true, false}
use mathlib.Core.List.{List, [], ◌∷◌, ◌++◌}
use native.Mathlib.Omega.{arith}
use lib.Dec.{leb}
use lib.ListN.{length, take, drop}
use lib.Seq.{take-append_seam}
use borrow.Author.Tests.{le-leb, lt-leb}
use Rattle.arena.specs.Win.{system, environment, DemandThree}
use Rattle.game.specs.declared.Game.{Game}
use Rattle.game.specs.Acceptance.{Acceptance, accepted, acceptance}
use Rattle.game.specs.Numbers.{first_of}
use Rattle.game.proofs.Numbers.{after, game_after}
use Rattle.play.specs.Play.{graph_of, separated_of}
use Rattle.theory.specs.Region.{verdict}
use Rattle.theory.specs.Entries.{controller_entries, environment_entries}
use Rattle.theory.proofs.Entries as entries
use Rattle.demands.specs.Demands.{play_of, controller_of, environment_of}
use Rattle.demands.proofs.Demands.{demand_three_system, demand_three_environment}
use Rattle.solver.specs.Verdict.{Verdict}
use Rattle.solver.specs.declared.Winner.TheVariants.{System, Environment}
use Rattle.scratch_clearing.specs.Clearing.{cleared}
use Rattle.scratch.specs.Scratch.{scratch_length}
use Rattle.solver.specs.Promise.{
  controller_length,
  environment_length,
  named,
  environment_tested,
  controller_tested,
  scratch_tested,
  verdict_answer,
  solve_tests,
  verdict_number,
  controller_after,
  environment_after,
  verdict_scratch,
  Decided,
  Solved,
}
use Rattle.solver_winner.specs.Written.{Written}
use Rattle.std.specs.declared.result.Result.TheVariants.{Ok, Err}
use Rattle.game.specs.declared.Refusal.{Refusal}
use Rattle.game.specs.declared.Refusal.TheVariants.{ShortController, ShortPanel, ShortScratch}

pub controller_long : (g : Game) → length (controller_entries (separated_of g)) ≡ controller_length g
unfolding controller_length separated_of graph_of
controller_long g = entries.controller_long (separated_of g)

pub environment_long : (g : Game) → length (environment_entries (separated_of g)) ≡ environment_length g
unfolding environment_length separated_of graph_of
environment_long g = entries.environment_long (separated_of g)

-- ---- the number

module _ (g : Game) (s c e : ℕ) where
  named_number : (b : Bool)
      → verdict_number (elim b as (λ x. Verdict) [ true ↦ Ok (System (controller_length g)) | false ↦ Ok (Environment (environment_length g)) ]) ≡ 0
  named_number true = refl
  named_number false = refl

  environment_test_number : (b : Bool) → verdict_number (elim b as (λ x. Verdict) [ true ↦ named g | false ↦ Err ShortPanel ]) ≡ first_of ((10, b) ∷ [])
  unfolding named first_of
  environment_test_number true = named_number (verdict (separated_of g))
  environment_test_number false = refl

  controller_test_number : (b : Bool)
      → verdict_number (elim b as (λ x. Verdict) [ true ↦ environment_tested g e | false ↦ Err ShortController ])
      ≡ first_of ((9, b) ∷ (10, leb (environment_length g) e) ∷ [])
  unfolding environment_tested first_of
  controller_test_number true = environment_test_number (leb (environment_length g) e)
  controller_test_number false = refl

  abbrev rooms : Bool → List (ℕ × Bool)
  rooms b = (8, b) ∷ (9, leb (controller_length g) c) ∷ (10, leb (environment_length g) e) ∷ []

  scratch_test_number : (b : Bool)
      → verdict_number (elim b as (λ x. Verdict) [ true ↦ controller_tested g c e | false ↦ Err ShortScratch ]) ≡ first_of (rooms b)
  unfolding controller_tested first_of
  scratch_test_number true = controller_test_number (leb (controller_length g) c)
  scratch_test_number false = refl

  acceptance_number_lem : (a : Acceptance)
      → verdict_number (elim a as (λ x. Verdict) [ Ok u ↦ scratch_tested g s c e | Err n ↦ Err n ])
      ≡ after a (first_of (rooms (leb (scratch_length g) s)))
  unfolding scratch_tested
  acceptance_number_lem (Ok u) = scratch_test_number (leb (scratch_length g) s)
  acceptance_number_lem (Err n) = refl

  verdict_number_lem : verdict_number (verdict_answer g s c e) ≡ first_of (solve_tests g s c e)
  unfolding verdict_answer solve_tests
  verdict_number_lem = acceptance_number_lem (acceptance g) ∙ sym (game_after g (rooms (leb (scratch_length g) s)))

-- scratch beyond what the game asks for changes no answer
pub more_scratch : (g : Game) (s c e : ℕ) → scratch_length g ≤ s → verdict_answer g s c e ≡ verdict_answer g (scratch_length g) c e
unfolding verdict_answer scratch_tested
more_scratch g s c e h =
    ap told (le-leb (scratch_length g) s h ∙ sym (le-leb (scratch_length g) (scratch_length g) (omega arith)))
  where
    told : Bool → Verdict
    told b = elim (acceptance g) [ Ok u ↦ elim b [ true ↦ controller_tested g c e | false ↦ Err ShortScratch ] | Err n ↦ Err n ]

module _ (g : Game) (s c e : List ℕ) where
  told : {r : Verdict} → r ≡ verdict_answer g (length s) (length c) (length e) → verdict_number r ≡ first_of (solve_tests g (length s) (length c) (length e))
  told h = ap verdict_number h ∙ verdict_number_lem g (length s) (length c) (length e)

  refused : (n : Refusal) → Err n ≡ verdict_answer g (length s) (length c) (length e) → Solved g s s c c e e (Err n)
  unfolding verdict_scratch controller_after environment_after Decided
  refused n h = record { answer = h; number = told h; scratch = refl; controller = refl; environment = refl; demand = tt }

  pub solve_faulty : (n : Refusal) → acceptance g ≡ Err n → Solved g s s c c e e (Err n)
  unfolding verdict_answer
  solve_faulty n a = refused n (rw (a, verdict_answer) refl)

  module _ (a : acceptance g ≡ accepted) where
    at_scratch_test : verdict_answer g (length s) (length c) (length e) ≡ scratch_tested g (length s) (length c) (length e)
    unfolding verdict_answer
    at_scratch_test = rw (a, verdict_answer) refl

    pub solve_scratch_short : length s < scratch_length g → Solved g s s c c e e (Err ShortScratch)
    unfolding scratch_tested
    solve_scratch_short h = refused ShortScratch (sym (at_scratch_test ∙ rw (lt-leb (scratch_length g) (length s) h, scratch_tested) refl))

    at_controller_test : scratch_length g ≤ length s → verdict_answer g (length s) (length c) (length e) ≡ controller_tested g (length c) (length e)
    unfolding scratch_tested
    at_controller_test h = at_scratch_test ∙ rw (le-leb (scratch_length g) (length s) h, scratch_tested) refl

    pub solve_controller_short : scratch_length g ≤ length s → length c < controller_length g → Solved g s s c c e e (Err ShortController)
    unfolding controller_tested
    solve_controller_short h k = refused ShortController (sym (at_controller_test h ∙ rw (lt-leb (controller_length g) (length c) k, controller_tested) refl))

    at_environment_test : scratch_length g ≤ length s → controller_length g ≤ length c
        → verdict_answer g (length s) (length c) (length e) ≡ environment_tested g (length e)
    unfolding controller_tested
    at_environment_test h k = at_controller_test h ∙ rw (le-leb (controller_length g) (length c) k, controller_tested) refl

    pub solve_environment_short : scratch_length g ≤ length s → controller_length g ≤ length c → length e < environment_length g
        → Solved g s s c c e e (Err ShortPanel)
    unfolding environment_tested
    solve_environment_short h k l =
        refused ShortPanel (sym (at_environment_test h k ∙ rw (lt-leb (environment_length g) (length e) l, environment_tested) refl))

    module _ (h : scratch_length g ≤ length s) (k : controller_length g ≤ length c) (l : environment_length g ≤ length e) where
      at_named : verdict_answer g (length s) (length c) (length e) ≡ named g
      unfolding environment_tested
      at_named = at_environment_test h k ∙ rw (le-leb (environment_length g) (length e) l, environment_tested) refl

      solved_system : (s' c' : List ℕ) → verdict (separated_of g) ≡ true → s' ≡ cleared (scratch_length g) s
          → c' ≡ controller_entries (separated_of g) ++ drop (controller_length g) c → Solved g s s' c c' e e (Ok (System (controller_length g)))
      unfolding verdict_scratch controller_after environment_after Decided named
      solved_system s' c' v p q = record {
        answer = wins;
        number = told wins;
        scratch = p;
        controller = q;
        environment = refl;
        demand = subst⁻¹ (λ (x : List ℕ). DemandThree (play_of g) (system (controller_of g x))) front (demand_three_system g a v);
      }
        where
          wins : Ok (System (controller_length g)) ≡ verdict_answer g (length s) (length c) (length e)
          wins = sym (at_named ∙ rw (v, named) refl)

          front : take (controller_length g) c' ≡ controller_entries (separated_of g)
          front =
              ap (take (controller_length g)) q
              ∙ ap (λ (n : ℕ). take n (controller_entries (separated_of g) ++ drop (controller_length g) c)) (sym (controller_long g))
              ∙ take-append_seam (controller_entries (separated_of g)) (drop (controller_length g) c)

      solved_environment : (s' e' : List ℕ) → verdict (separated_of g) ≡ false → s' ≡ cleared (scratch_length g) s
          → e' ≡ environment_entries (separated_of g) ++ drop (environment_length g) e → Solved g s s' c c e e' (Ok (Environment (environment_length g)))
      unfolding verdict_scratch controller_after environment_after Decided named
      solved_environment s' e' v p q = record {
        answer = wins;
        number = told wins;
        scratch = p;
        controller = refl;
        environment = q;
        demand = subst⁻¹ (λ (x : List ℕ). DemandThree (play_of g) (environment (environment_of g x))) front (demand_three_environment g a v);
      }
        where
          wins : Ok (Environment (environment_length g)) ≡ verdict_answer g (length s) (length c) (length e)
          wins = sym (at_named ∙ rw (v, named) refl)

          front : take (environment_length g) e' ≡ environment_entries (separated_of g)
          front =
              ap (take (environment_length g)) q
              ∙ ap (λ (n : ℕ). take n (environment_entries (separated_of g) ++ drop (environment_length g) e)) (sym (environment_long g))
              ∙ take-append_seam (environment_entries (separated_of g)) (drop (environment_length g) e)

-- ---- from what was written

module _ (g : Game) (s s' c c' e e' : List ℕ) {r : Bool} (W : Written g s s' c c' e e' r) (a : acceptance g ≡ accepted) (h : scratch_length g ≤ length s)
    (x y : ℕ) (p : x ≡ length (controller_entries (separated_of g))) (q : y ≡ length (environment_entries (separated_of g))) (k : x ≤ length c)
    (l : y ≤ length e) where
  lc : x ≡ controller_length g
  lc = p ∙ controller_long g

  le : y ≡ environment_length g
  le = q ∙ environment_long g

  pub written_system : r ≡ true → Solved g s s' c c' e e' (Ok (System x))
  written_system v =
      subst⁻¹ (λ (n : ℕ). Solved g s s' c c' e e' (Ok (System n))) lc
      (subst⁻¹ (λ (t : List ℕ). Solved g s s' c c' e t (Ok (System (controller_length g)))) same
      (solved_system g s c e a h (subst (λ (n : ℕ). n ≤ length c) lc k) (subst (λ (n : ℕ). n ≤ length e) le l) s' c' (sym W.wins ∙ v) W.scratch front))
    where
      same : e' ≡ e
      same =
          W.environment ∙ ap (λ (b : Bool). elim b as (λ t. List ℕ)
          [ true ↦ e | false ↦ environment_entries (separated_of g) ++ drop (length (environment_entries (separated_of g))) e ]) v

      front : c' ≡ controller_entries (separated_of g) ++ drop (controller_length g) c
      front =
          W.controller
          ∙ ap (λ (b : Bool). elim b as (λ t. List ℕ) [
            | true ↦ controller_entries (separated_of g) ++ drop (length (controller_entries (separated_of g))) c
            | false ↦ c
          ]) v
          ∙ ap (λ (n : ℕ). controller_entries (separated_of g) ++ drop n c) (controller_long g)

  pub written_environment : r ≡ false → Solved g s s' c c' e e' (Ok (Environment y))
  written_environment v =
      subst⁻¹ (λ (n : ℕ). Solved g s s' c c' e e' (Ok (Environment n))) le
      (subst⁻¹ (λ (t : List ℕ). Solved g s s' c t e e' (Ok (Environment (environment_length g)))) same
      (solved_environment g s c e a h (subst (λ (n : ℕ). n ≤ length c) lc k) (subst (λ (n : ℕ). n ≤ length e) le l) s' e' (sym W.wins ∙ v) W.scratch
      front))
    where
      same : c' ≡ c
      same =
          W.controller
          ∙ ap (λ (b : Bool). elim b as (λ t. List ℕ) [
            | true ↦ controller_entries (separated_of g) ++ drop (length (controller_entries (separated_of g))) c
            | false ↦ c
          ]) v

      front : e' ≡ environment_entries (separated_of g) ++ drop (environment_length g) e
      front =
          W.environment
          ∙ ap (λ (b : Bool). elim b as (λ t. List ℕ) [
            | true ↦ e
            | false ↦ environment_entries (separated_of g) ++ drop
                (length (environment_entries (separated_of g))) e
          ]) v
          ∙ ap (λ (n : ℕ). environment_entries (separated_of g) ++ drop n e) (environment_long g)
