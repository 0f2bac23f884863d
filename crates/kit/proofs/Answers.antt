-- The kit's answers, case by case.
--
--   kit_faulty, kit_scratch_short, kit_controller_short, kit_room_short    : the refusals that are told before the solver begins
--   system_length          : the solver hands over the whole table
--   scratch_enough         : scratch has a word for each old mode
--   kit_system, kit_environment, kit_refused    : its answers
use Prim.Native.Nat.{ℕ, ◌≤◌, ◌<◌}
use mathlib.Core.Path.{◌≡◌, refl, sym, ◌∙◌, ap, subst}
use mathlib.Core.Bool.{Bool, true, false, ◌&&◌}
use mathlib.Core.List.{List, [], ◌∷◌, ◌++◌}
use native.Mathlib.Omega.{arith}
use lib.Dec.{leb}
use lib.ListN.{length, take, drop}
use lib.Seq.{take-append_seam}
use borrow.Author.Tests.{le-leb, lt-leb}
use Rattle.finite.proofs.Truth.{and_intro}
use Rattle.finite.proofs.Front.{front_at, front_intro}
use Rattle.arena.specs.Win.{ControllerWins, DemandThree, system}
use Rattle.arena.proofs.Demand.{system_holds}
use Rattle.game.specs.Acceptance.{accepted, Acceptance}
use Rattle.game.specs.Numbers.{first_of}
use Rattle.game.proofs.Numbers.{after}
use Rattle.play.specs.Play.{separated_of}
use Rattle.theory.specs.Region.{verdict}
use Rattle.theory.specs.Entries.{controller_entries}
use Rattle.demands.specs.Demands.{play_of, controller_of}
use Rattle.scratch.specs.Scratch.{scratch_length}
use Rattle.scratch_clearing.specs.Clearing.{cleared}
use Rattle.kit_rows.proofs.Cleared.{cleared_length}
use Rattle.solver.specs.Verdict.{Verdict}
use Rattle.solver.specs.declared.Winner.TheVariants.{System, Environment}
use Rattle.solver.specs.Promise.{
  controller_length,
  environment_length,
  named,
  environment_tested,
  controller_tested,
  scratch_tested,
  verdict_answer,
  verdict_number,
  controller_after,
  environment_after,
  verdict_scratch,
  Decided,
  Solved,
}
use Rattle.kit_drives.specs.declared.Kit.{Kit}
use Rattle.kit_drives.specs.Drive.{graph_from, game_from}
use Rattle.kit_drives.specs.Acceptance.{kit_acceptance}
use Rattle.kit_drives.proofs.Acceptance.{kit_fitting, kit_after_lem}
use Rattle.kit_rows.specs.Rows.{kit_length, kit_entries}
use Rattle.kit_rows.proofs.Kits.{entries_long}
use Rattle.kit_runs.specs.Exchange.{Exchanged}
use Rattle.kit_runs.proofs.Turns.{kit_reads}
use Rattle.kit_runs.proofs.Exchange.{kit_exchanged}
use Rattle.kit.proofs.Lengths.{controller_long}
use Rattle.kit.specs.Promise.{kit_named, kit_environment_tested, kit_rooms_tested, kit_scratch_tested, kit_answer}
use Rattle.kit.specs.Promise.{solve_kit_tests, solver_answer, kit_after, KitKept, KitSolved}
use Rattle.std.specs.declared.result.Result.TheVariants.{Ok, Err}
use Rattle.game.specs.declared.Refusal.{Refusal}
use Rattle.game.specs.declared.Refusal.TheVariants.{ShortController, ShortPanel, ShortScratch}

-- what an answer of the solver is for the kit
unfoldable lifted : Kit → Verdict → Verdict
lifted k (Ok (System n)) = Ok (System (kit_length k))
lifted k (Ok (Environment n)) = Ok (Environment n)
lifted k (Err n) = Err n

-- the front of a room
front_of_lem : (l m : List ℕ) (n : ℕ) → n ≡ length l → take n (l ++ m) ≡ l
front_of_lem l m n q = ap (λ (i : ℕ). take i (l ++ m)) q ∙ take-append_seam l m

modes_in : (k : Kit) → k.old.modes ≤ length (controller_entries (separated_of (game_from k)))
unfolding controller_length game_from graph_from
modes_in k = omega (arith, controller_long k)

-- ---- scratch

modes_few : (k : Kit) → k.old.modes ≤ scratch_length (game_from k)
unfolding game_from graph_from
modes_few k = omega arith

-- what is zero is cleared already
cleared_again : (m n : ℕ) (s : List ℕ) → m ≤ n → n ≤ length s → cleared m (cleared n s) ≡ cleared n s
unfolding cleared
cleared_again m n s a b =
    sym (front_intro (λ i. 0) (cleared n s) (cleared n s) m 0 (omega (arith, cleared_length s (cleared n s) n b refl))
    (λ i h. front_at (λ i. 0) s n i 0 (omega arith)) refl)

-- ---- the number

module _ (k : Kit) (s c e t : ℕ) where
  named_number : (b : Bool) → verdict_number (elim b as (λ x. Verdict) [
    | true ↦ Ok (System (kit_length k))
    | false ↦ Ok (Environment (environment_length (game_from k)))
  ]) ≡ 0
  named_number true = refl
  named_number false = refl

  environment_test_number : (b : Bool) → verdict_number (elim b as (λ x. Verdict) [ true ↦ kit_named k | false ↦ Err ShortPanel ]) ≡ first_of ((10, b) ∷ [])
  unfolding kit_named first_of
  environment_test_number true = named_number (verdict (separated_of (game_from k)))
  environment_test_number false = refl

  controller_test_number : (b : Bool)
      → verdict_number (elim b as (λ x. Verdict) [ true ↦ kit_environment_tested k e | false ↦ Err ShortController ])
      ≡ first_of ((9, b) ∷ (10, leb (environment_length (game_from k)) e) ∷ [])
  unfolding kit_environment_tested first_of
  controller_test_number true = environment_test_number (leb (environment_length (game_from k)) e)
  controller_test_number false = refl

  abbrev enough : Bool
  enough = leb (controller_length (game_from k)) c && leb (kit_length k) t

  abbrev rooms : Bool → List (ℕ × Bool)
  rooms b = (8, b) ∷ (9, enough) ∷ (10, leb (environment_length (game_from k)) e) ∷ []

  scratch_test_number : (b : Bool)
      → verdict_number (elim b as (λ x. Verdict) [ true ↦ kit_rooms_tested k c e t | false ↦ Err ShortScratch ]) ≡ first_of (rooms b)
  unfolding kit_rooms_tested first_of
  scratch_test_number true = controller_test_number enough
  scratch_test_number false = refl

  acceptance_number_lem : (a : Acceptance)
      → verdict_number (elim a as (λ x. Verdict) [ Ok u ↦ kit_scratch_tested k s c e t | Err n ↦ Err n ])
      ≡ after a (first_of (rooms (leb (scratch_length (game_from k)) s)))
  unfolding kit_scratch_tested
  acceptance_number_lem (Ok u) = scratch_test_number (leb (scratch_length (game_from k)) s)
  acceptance_number_lem (Err n) = refl

  kit_number : verdict_number (kit_answer k s c e t) ≡ first_of (solve_kit_tests k s c e t)
  unfolding kit_answer solve_kit_tests
  kit_number = acceptance_number_lem (kit_acceptance k) ∙ sym (kit_after_lem k (rooms (leb (scratch_length (game_from k)) s)))

module _ (k : Kit) (s c e t : List ℕ) where
  told : {r : Verdict} → r ≡ kit_answer k (length s) (length c) (length e) (length t)
      → verdict_number r ≡ first_of (solve_kit_tests k (length s) (length c) (length e) (length t))
  told h = ap verdict_number h ∙ kit_number k (length s) (length c) (length e) (length t)

  refused : (n : Refusal) → Err n ≡ kit_answer k (length s) (length c) (length e) (length t) → KitSolved k s s c c e e t t (Err n)
  unfolding verdict_scratch controller_after environment_after solver_answer kit_after KitKept Decided
  refused n a = record { answer = a; number = told a; scratch = refl; controller = refl; environment = refl; kit = refl; demand = tt; kept = tt }

  pub kit_faulty : (n : Refusal) → kit_acceptance k ≡ Err n → KitSolved k s s c c e e t t (Err n)
  unfolding kit_answer
  kit_faulty n a = refused n (rw (a, kit_answer) refl)

  module _ (a : kit_acceptance k ≡ accepted) where
    at_scratch_test : kit_answer k (length s) (length c) (length e) (length t) ≡ kit_scratch_tested k (length s) (length c) (length e) (length t)
    unfolding kit_answer
    at_scratch_test = rw (a, kit_answer) refl

    pub kit_scratch_short : length s < scratch_length (game_from k) → KitSolved k s s c c e e t t (Err ShortScratch)
    unfolding kit_scratch_tested
    kit_scratch_short b = refused ShortScratch (sym (at_scratch_test ∙ rw (lt-leb (scratch_length (game_from k)) (length s) b, kit_scratch_tested) refl))

    at_rooms_test : scratch_length (game_from k) ≤ length s
        → kit_answer k (length s) (length c) (length e) (length t) ≡ kit_rooms_tested k (length c) (length e) (length t)
    unfolding kit_scratch_tested
    at_rooms_test b = at_scratch_test ∙ rw (le-leb (scratch_length (game_from k)) (length s) b, kit_scratch_tested) refl

    short : scratch_length (game_from k) ≤ length s → (leb (controller_length (game_from k)) (length c) && leb (kit_length k) (length t)) ≡ false
        → KitSolved k s s c c e e t t (Err ShortController)
    unfolding kit_rooms_tested
    short b d = refused ShortController (sym (at_rooms_test b ∙ rw (d, kit_rooms_tested) refl))

    pub kit_controller_short : scratch_length (game_from k) ≤ length s → length c < controller_length (game_from k)
        → KitSolved k s s c c e e t t (Err ShortController)
    kit_controller_short b d = short b (ap (λ (x : Bool). x && leb (kit_length k) (length t)) (lt-leb (controller_length (game_from k)) (length c) d))

    pub kit_room_short : scratch_length (game_from k) ≤ length s → controller_length (game_from k) ≤ length c → length t < kit_length k
        → KitSolved k s s c c e e t t (Err ShortController)
    kit_room_short b d f =
        short b
        (ap (λ (x : Bool). x && leb (kit_length k) (length t)) (le-leb (controller_length (game_from k)) (length c) d) ∙ lt-leb (kit_length k) (length t) f)

    -- past the tests: what the solver answers, lifted
    module _ (b : scratch_length (game_from k) ≤ length s) (d : controller_length (game_from k) ≤ length c) (f : kit_length k ≤ length t) where
      at_environment_test : kit_answer k (length s) (length c) (length e) (length t) ≡ kit_environment_tested k (length e)
      unfolding kit_rooms_tested
      at_environment_test =
          at_rooms_test b
          ∙ rw (and_intro (le-leb (controller_length (game_from k)) (length c) d) (le-leb (kit_length k) (length t) f), kit_rooms_tested) refl

      solver_environment_test : verdict_answer (game_from k) (length s) (length c) (length e) ≡ environment_tested (game_from k) (length e)
      unfolding verdict_answer scratch_tested controller_tested
      solver_environment_test =
          rw ((kit_fitting k a).game, verdict_answer)
          (rw (le-leb (scratch_length (game_from k)) (length s) b, scratch_tested)
          (rw (le-leb (controller_length (game_from k)) (length c) d, controller_tested) refl))

      environment_test_same : kit_environment_tested k (length e) ≡ lifted k (environment_tested (game_from k) (length e))
      unfolding kit_environment_tested environment_tested kit_named named lifted
      environment_test_same = go (leb (environment_length (game_from k)) (length e)) (verdict (separated_of (game_from k)))
        where
          go : (x y : Bool)
              → elim x as (λ v. Verdict) [
                | true ↦ elim y [ true ↦ Ok (System (kit_length k)) | false ↦ Ok (Environment (environment_length (game_from k))) ]
                | false ↦ Err ShortPanel
              ] ≡ lifted k (elim x [
                | true ↦ elim y [ true ↦ Ok (System (controller_length (game_from k))) | false ↦ Ok (Environment (environment_length (game_from k))) ]
                | false ↦ Err ShortPanel
              ])
          go true true = refl
          go true false = refl
          go false y = refl

      answer_lifted : (r : Verdict) → r ≡ verdict_answer (game_from k) (length s) (length c) (length e)
          → lifted k r ≡ kit_answer k (length s) (length c) (length e) (length t)
      answer_lifted r q = ap (lifted k) (q ∙ solver_environment_test) ∙ sym (at_environment_test ∙ environment_test_same)

      pub system_length : (n : ℕ) → Ok (System n) ≡ verdict_answer (game_from k) (length s) (length c) (length e) → n ≡ controller_length (game_from k)
      unfolding environment_tested named
      system_length n q = go (leb (environment_length (game_from k)) (length e)) (verdict (separated_of (game_from k))) (q ∙ solver_environment_test)
        where
          go : (x y : Bool)
              → ◌≡◌ {A = Verdict} (Ok (System n)) (elim x as (λ v. Verdict) [
                | true ↦ elim y [ true ↦ Ok (System (controller_length (game_from k))) | false ↦ Ok (Environment (environment_length (game_from k))) ]
                | false ↦ Err ShortPanel
              ]) → n ≡ controller_length (game_from k)
          go true true h = cc
          go true false h = absurd (let z : ◌≡◌ {A = ℕ} 0 1 = cc in omega arith)
          go false y h = absurd (let z : ◌≡◌ {A = ℕ} 0 1 = cc in omega arith)

      -- the table that the solver hands over
      pub handed : (n : ℕ) (s' c' e' : List ℕ) → Solved (game_from k) s s' c c' e e' (Ok (System n))
          → take n c' ≡ controller_entries (separated_of (game_from k))
      unfolding controller_after
      handed n s' c' e' S =
          ap (take n) S.controller
          ∙ front_of_lem (controller_entries (separated_of (game_from k))) (drop n c) n (system_length n S.answer ∙ sym (controller_long k))

      -- the words that the writing of the kit's table uses are zero already
      pub scratch_enough : (n : ℕ) (s' c' e' : List ℕ) → Solved (game_from k) s s' c c' e e' (Ok (System n)) → k.old.modes ≤ length s'
      unfolding verdict_scratch
      scratch_enough n s' c' e' S = omega (arith, modes_few k, cleared_length s s' (scratch_length (game_from k)) b S.scratch)

      scratch_kept : (n : ℕ) (s' s'' c' e' : List ℕ) → Solved (game_from k) s s' c c' e e' (Ok (System n)) → s'' ≡ cleared k.old.modes s'
          → s'' ≡ cleared (scratch_length (game_from k)) s
      unfolding verdict_scratch
      scratch_kept n s' s'' c' e' S q =
          q ∙ ap (cleared k.old.modes) S.scratch ∙ cleared_again k.old.modes (scratch_length (game_from k)) s (modes_few k) b

      pub kit_system : (n : ℕ) (s' s'' c' e' t' : List ℕ) → Solved (game_from k) s s' c c' e e' (Ok (System n)) → s'' ≡ cleared k.old.modes s'
          → t' ≡ kit_entries k (take n c') ++ drop (kit_length k) t → KitSolved k s s'' c c' e e' t t' (Ok (System (kit_length k)))
      unfolding lifted verdict_scratch controller_after environment_after solver_answer kit_after KitKept Decided
      kit_system n s' s'' c' e' t' S w q = record {
        answer = answer_lifted (Ok (System n)) S.answer;
        number = told (answer_lifted (Ok (System n)) S.answer);
        scratch = scratch_kept n s' s'' c' e' S w;
        controller = S.controller ∙ ap (λ (m : ℕ). controller_entries (separated_of (game_from k)) ++ drop m c) (system_length n S.answer);
        environment = S.environment;
        kit = filled;
        demand = subst (λ (m : ℕ). Decided (game_from k) (Ok (System m)) c' e') (system_length n S.answer) S.demand;
        kept = subst (Exchanged k) (sym front) exchanged;
      }
        where
          E : List ℕ
          E = controller_entries (separated_of (game_from k))

          filled : t' ≡ kit_entries k E ++ drop (kit_length k) t
          filled = q ∙ ap (λ (l : List ℕ). kit_entries k l ++ drop (kit_length k) t) (handed n s' c' e' S)

          front : take (kit_length k) t' ≡ kit_entries k E
          front = ap (take (kit_length k)) filled ∙ front_of_lem (kit_entries k E) (drop (kit_length k) t) (kit_length k) (sym (entries_long k E (modes_in k)))

          wins : ControllerWins (play_of (game_from k)) (controller_of (game_from k) E)
          wins =
              system_holds (play_of (game_from k)) (controller_of (game_from k) E)
              (subst (λ (l : List ℕ). DemandThree (play_of (game_from k)) (system (controller_of (game_from k) l))) (handed n s' c' e' S) S.demand)

          exchanged : Exchanged k (kit_entries k E)
          exchanged = kit_exchanged k (kit_fitting k a) E (kit_entries k E) (kit_reads k E (modes_in k)) wins

      pub kit_environment : (n : ℕ) (s' c' e' : List ℕ) → Solved (game_from k) s s' c c' e e' (Ok (Environment n))
          → KitSolved k s s' c c' e e' t t (Ok (Environment n))
      unfolding lifted verdict_scratch controller_after environment_after solver_answer kit_after KitKept Decided
      kit_environment n s' c' e' S = record {
        answer = answer_lifted (Ok (Environment n)) S.answer;
        number = told (answer_lifted (Ok (Environment n)) S.answer);
        scratch = S.scratch;
        controller = S.controller;
        environment = S.environment;
        kit = refl;
        demand = S.demand;
        kept = tt;
      }

      pub kit_refused : (n : Refusal) (s' c' e' : List ℕ) → Solved (game_from k) s s' c c' e e' (Err n) → KitSolved k s s' c c' e e' t t (Err n)
      unfolding lifted verdict_scratch controller_after environment_after solver_answer kit_after KitKept Decided
      kit_refused n s' c' e' S = record {
        answer = answer_lifted (Err n) S.answer;
        number = told (answer_lifted (Err n) S.answer);
        scratch = S.scratch;
        controller = S.controller;
        environment = S.environment;
        kit = refl;
        demand = tt;
        kept = tt;
      }
