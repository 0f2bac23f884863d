-- What the solver answers, case by case, where it writes the controller's table with its rows by component.
use Prim.Native.Nat.{ℕ, ◌+◌, ◌*◌, ◌≤◌, ◌<◌}
use native.Mathlib.Nat.{mul-le-mul}
use mathlib.Core.Path.{◌≡◌, refl, sym, ◌∙◌, ap, subst, subst⁻¹}
use mathlib.Core.Bool.{Bool, true, false}
use mathlib.Core.List.{List, [], ◌∷◌, ◌++◌}
use mathlib.Core.Logic.{◌≢◌}
use native.Mathlib.Omega.{arith}
use lib.Dec.{leb}
use lib.ListN.{length, get_or, take, drop, get_or-append}
use lib.Seq.{take-append_seam}
use borrow.Author.Tests.{le-leb, lt-leb}
use Rattle.finite.proofs.Truth.{true_of, false_of}
use Rattle.arena.specs.Arena.{Separated}
use Rattle.arena.specs.Win.{system, environment, DemandThree}
use Rattle.game.specs.declared.Game.{Game}
use Rattle.game.specs.Acceptance.{Acceptance, accepted, acceptance}
use Rattle.game.specs.Numbers.{first_of}
use Rattle.game.proofs.Laws.{accepted_fits}
use Rattle.game.proofs.Numbers.{after, game_after}
use Rattle.play.specs.Play.{graph_of, separated_of}
use Rattle.theory.specs.Region.{verdict}
use Rattle.theory.specs.Entries.{none_entry, controller_counters, controller_entries, environment_entries}
use Rattle.theory.proofs.Entries.{place_below}
use Rattle.demands.specs.Demands.{play_of, environment_of}
use Rattle.demands.proofs.Demands.{demand_three_environment}
use Rattle.compact.specs.Rank.{component_count}
use Rattle.compact.specs.Compact.{compact_length, compact_entries, compact_cell, compact_row, full_row, compact_table, compact_outcome}
use Rattle.compact.proofs.Rank.{rank_below, components_le}
use Rattle.compact.proofs.Entries.{compact_entries_length, compact_rank, rows_equal}
use Rattle.compact.proofs.Claims.{rows_by_component}
use Rattle.scratch_clearing.specs.Clearing.{cleared}
use Rattle.scratch.specs.Scratch.{scratch_length}
use Rattle.table_sizes.proofs.Lengths.{inputs_most, controller_entries_lem}
use Rattle.solver.specs.Verdict.{Verdict}
use Rattle.solver.specs.declared.Winner.TheVariants.{System, Environment}
use Rattle.solver.specs.Promise.{controller_length, environment_length, verdict_number, environment_after, verdict_scratch}
use Rattle.solver.specs.Compact.{
  compact_named,
  compact_environment_tested,
  compact_controller_tested,
  compact_scratch_tested,
  compact_answer,
  compact_tests,
  compact_after,
  DecidedCompact,
  EqualRows,
  SolvedCompact,
}
use Rattle.solver.proofs.Verdicts.{controller_long, environment_long}
use Rattle.solver_winner.specs.Written.{WrittenCompact}
use Rattle.std.specs.declared.result.Result.TheVariants.{Ok, Err}
use Rattle.game.specs.declared.Refusal.{Refusal}
use Rattle.game.specs.declared.Refusal.TheVariants.{ShortController, ShortPanel, ShortScratch}

-- ---- the number

module _ (g : Game) (s c e : ℕ) where
  named_number : (b : Bool)
      → verdict_number (elim b as (λ x. Verdict) [ true ↦ Ok (System (compact_length (separated_of g))) | false ↦ Ok (Environment (environment_length g)) ]) ≡ 0
  named_number true = refl
  named_number false = refl

  environment_test_number : (b : Bool) → verdict_number (elim b as (λ x. Verdict) [ true ↦ compact_named g | false ↦ Err ShortPanel ]) ≡ first_of ((10, b) ∷ [])
  unfolding compact_named first_of
  environment_test_number true = named_number (verdict (separated_of g))
  environment_test_number false = refl

  controller_test_number : (b : Bool)
      → verdict_number (elim b as (λ x. Verdict) [ true ↦ compact_environment_tested g e | false ↦ Err ShortController ])
      ≡ first_of ((9, b) ∷ (10, leb (environment_length g) e) ∷ [])
  unfolding compact_environment_tested first_of
  controller_test_number true = environment_test_number (leb (environment_length g) e)
  controller_test_number false = refl

  abbrev rooms : Bool → List (ℕ × Bool)
  rooms b = (8, b) ∷ (9, leb (compact_length (separated_of g)) c) ∷ (10, leb (environment_length g) e) ∷ []

  scratch_test_number : (b : Bool)
      → verdict_number (elim b as (λ x. Verdict) [ true ↦ compact_controller_tested g c e | false ↦ Err ShortScratch ]) ≡ first_of (rooms b)
  unfolding compact_controller_tested first_of
  scratch_test_number true = controller_test_number (leb (compact_length (separated_of g)) c)
  scratch_test_number false = refl

  acceptance_number_lem : (a : Acceptance)
      → verdict_number (elim a as (λ x. Verdict) [ Ok u ↦ compact_scratch_tested g s c e | Err n ↦ Err n ])
      ≡ after a (first_of (rooms (leb (scratch_length g) s)))
  unfolding compact_scratch_tested
  acceptance_number_lem (Ok u) = scratch_test_number (leb (scratch_length g) s)
  acceptance_number_lem (Err n) = refl

  verdict_number_lem : verdict_number (compact_answer g s c e) ≡ first_of (compact_tests g s c e)
  unfolding compact_answer compact_tests
  verdict_number_lem = acceptance_number_lem (acceptance g) ∙ sym (game_after g (rooms (leb (scratch_length g) s)))

-- ---- rows

-- what is read from the front of a buffer is read from the table
module _ (S : Separated) (l : List ℕ) where
  front_row : (o h j : ℕ) → o < S.output.states → h < controller_counters S → j < S.input.states
      → compact_row S (compact_entries S ++ l) o h j ≡ compact_row S (compact_entries S) o h j
  unfolding compact_row compact_cell compact_length
  front_row o h j lo lh lj =
      let I = S.input.states in
      let long = compact_entries_length S in
      let rank = compact_rank S j lj in
      ap (λ (k : ℕ). get_or (compact_entries S ++ l) (I + (I + ((o * controller_counters S + h) * component_count S + k))) none_entry)
      (get_or-append (compact_entries S) l none_entry (I + j) (omega arith))
      ∙ get_or-append (compact_entries S) l none_entry
      (I + (I + ((o * controller_counters S + h) * component_count S + get_or (compact_entries S) (I + j) none_entry)))
      (omega (
        arith,
        place_below S.output.states (controller_counters S) (component_count S) o h (get_or (compact_entries S) (I + j) none_entry) lo lh
            (rw rank (rank_below S j lj)),
      ))

rows_behind : (g : Game) (o h j : ℕ) → o < g.output.states → h < controller_counters (separated_of g) → j < g.input.states → (l : List ℕ)
    → compact_row (separated_of g) (compact_entries (separated_of g) ++ l) o h j ≡ full_row (separated_of g) (controller_entries (separated_of g)) o h j
unfolding separated_of graph_of
rows_behind g o h j lo lh lj l = front_row (separated_of g) l o h j lo lh lj ∙ rows_equal (separated_of g) o h j lo lh lj

-- ---- the length

compact_some : (g : Game) → acceptance g ≡ accepted → 0 < compact_length (separated_of g)
unfolding compact_length separated_of graph_of
compact_some g a = omega (arith, (accepted_fits g a).input.some)

-- the full layout is far from wrapping
pub full_most : (g : Game) → acceptance g ≡ accepted → length (controller_entries (separated_of g)) ≤ 524416
unfolding controller_length
full_most g a = omega (arith, controller_long g, inputs_most g a, controller_entries_lem g a (controller_counters (separated_of g)) refl)

-- a room with a row for each input is long enough
pub compact_most : (g : Game) → compact_length (separated_of g) ≤ g.input.states + length (controller_entries (separated_of g))
unfolding compact_length separated_of graph_of controller_length
compact_most g =
    let m : ℕ = g.output.states * controller_counters (separated_of g) in
    let p : m * component_count (separated_of g) ≤ m * g.input.states = mul-le-mul {n₁ = m} {n₂ = m} (omega arith) (components_le (separated_of g)) in
    omega (arith, controller_long g, p)

-- ---- the answers

module _ (g : Game) (s c e : List ℕ) where
  told : {r : Verdict} → r ≡ compact_answer g (length s) (length c) (length e) → verdict_number r ≡ first_of (compact_tests g (length s) (length c) (length e))
  told h = ap verdict_number h ∙ verdict_number_lem g (length s) (length c) (length e)

  refused : (n : Refusal) → Err n ≡ compact_answer g (length s) (length c) (length e) → SolvedCompact g s s c c e e (Err n)
  unfolding verdict_scratch compact_after environment_after DecidedCompact EqualRows
  refused n h = record { answer = h; number = told h; scratch = refl; controller = refl; environment = refl; demand = tt; rows = tt }

  pub solve_faulty : (n : Refusal) → acceptance g ≡ Err n → SolvedCompact g s s c c e e (Err n)
  unfolding compact_answer
  solve_faulty n a = refused n (rw (a, compact_answer) refl)

  module _ (a : acceptance g ≡ accepted) where
    demand_of : verdict (separated_of g) ≡ true → DemandThree (play_of g) (system (compact_table (separated_of g) (compact_entries (separated_of g))))
    unfolding compact_outcome
    demand_of v = rw (v, compact_outcome) at (rows_by_component g a).demand

    at_scratch_test : compact_answer g (length s) (length c) (length e) ≡ compact_scratch_tested g (length s) (length c) (length e)
    unfolding compact_answer
    at_scratch_test = rw (a, compact_answer) refl

    pub solve_scratch_short : length s < scratch_length g → SolvedCompact g s s c c e e (Err ShortScratch)
    unfolding compact_scratch_tested
    solve_scratch_short h = refused ShortScratch (sym (at_scratch_test ∙ rw (lt-leb (scratch_length g) (length s) h, compact_scratch_tested) refl))

    at_controller_test : scratch_length g ≤ length s → compact_answer g (length s) (length c) (length e) ≡ compact_controller_tested g (length c) (length e)
    unfolding compact_scratch_tested
    at_controller_test h = at_scratch_test ∙ rw (le-leb (scratch_length g) (length s) h, compact_scratch_tested) refl

    pub solve_controller_short : scratch_length g ≤ length s → length c < compact_length (separated_of g) → SolvedCompact g s s c c e e (Err ShortController)
    unfolding compact_controller_tested
    solve_controller_short h k =
        refused ShortController (sym (at_controller_test h ∙ rw (lt-leb (compact_length (separated_of g)) (length c) k, compact_controller_tested) refl))

    at_environment_test : scratch_length g ≤ length s → compact_length (separated_of g) ≤ length c
        → compact_answer g (length s) (length c) (length e) ≡ compact_environment_tested g (length e)
    unfolding compact_controller_tested
    at_environment_test h k = at_controller_test h ∙ rw (le-leb (compact_length (separated_of g)) (length c) k, compact_controller_tested) refl

    pub solve_environment_short : scratch_length g ≤ length s → compact_length (separated_of g) ≤ length c → length e < environment_length g
        → SolvedCompact g s s c c e e (Err ShortPanel)
    unfolding compact_environment_tested
    solve_environment_short h k l =
        refused ShortPanel (sym (at_environment_test h k ∙ rw (lt-leb (environment_length g) (length e) l, compact_environment_tested) refl))

    module _ (h : scratch_length g ≤ length s) (k : compact_length (separated_of g) ≤ length c) (l : environment_length g ≤ length e) where
      at_named : compact_answer g (length s) (length c) (length e) ≡ compact_named g
      unfolding compact_environment_tested
      at_named = at_environment_test h k ∙ rw (le-leb (environment_length g) (length e) l, compact_environment_tested) refl

      solved_system : (s' c' : List ℕ) → verdict (separated_of g) ≡ true → s' ≡ cleared (scratch_length g) s
          → c' ≡ compact_entries (separated_of g) ++ drop (compact_length (separated_of g)) c
          → SolvedCompact g s s' c c' e e (Ok (System (compact_length (separated_of g))))
      unfolding verdict_scratch compact_after environment_after DecidedCompact EqualRows compact_named
      solved_system s' c' v p q = record {
        answer = wins;
        number = told wins;
        scratch = p;
        controller = q;
        environment = refl;
        demand = subst⁻¹ (λ (x : List ℕ). DemandThree (play_of g) (system (compact_table (separated_of g) x))) front (demand_of v);
        rows = λ o i j lo li lj. rw q (rows_behind g o i j lo li lj (drop (compact_length (separated_of g)) c));
      }
        where
          wins : Ok (System (compact_length (separated_of g))) ≡ compact_answer g (length s) (length c) (length e)
          wins = sym (at_named ∙ rw (v, compact_named) refl)

          front : take (compact_length (separated_of g)) c' ≡ compact_entries (separated_of g)
          front =
              ap (take (compact_length (separated_of g))) q
              ∙ ap (λ (n : ℕ). take n (compact_entries (separated_of g) ++ drop (compact_length (separated_of g)) c))
              (sym (compact_entries_length (separated_of g)))
              ∙ take-append_seam (compact_entries (separated_of g)) (drop (compact_length (separated_of g)) c)

      solved_environment : (s' e' : List ℕ) → verdict (separated_of g) ≡ false → s' ≡ cleared (scratch_length g) s
          → e' ≡ environment_entries (separated_of g) ++ drop (environment_length g) e → SolvedCompact g s s' c c e e' (Ok (Environment (environment_length g)))
      unfolding verdict_scratch compact_after environment_after DecidedCompact EqualRows compact_named
      solved_environment s' e' v p q = record {
        answer = wins;
        number = told wins;
        scratch = p;
        controller = refl;
        environment = q;
        demand = subst⁻¹ (λ (x : List ℕ). DemandThree (play_of g) (environment (environment_of g x))) front (demand_three_environment g a v);
        rows = tt;
      }
        where
          wins : Ok (Environment (environment_length g)) ≡ compact_answer g (length s) (length c) (length e)
          wins = sym (at_named ∙ rw (v, compact_named) refl)

          front : take (environment_length g) e' ≡ environment_entries (separated_of g)
          front =
              ap (take (environment_length g)) q
              ∙ ap (λ (n : ℕ). take n (environment_entries (separated_of g) ++ drop (environment_length g) e)) (sym (environment_long g))
              ∙ take-append_seam (environment_entries (separated_of g)) (drop (environment_length g) e)

-- ---- from what was written

module _ (g : Game) (s s' c c' e e' : List ℕ) {r : ℕ} (W : WrittenCompact g s s' c c' e e' r) (a : acceptance g ≡ accepted) (h : scratch_length g ≤ length s)
    (k : compact_length (separated_of g) ≤ length c) (y : ℕ) (q : y ≡ length (environment_entries (separated_of g))) (l : y ≤ length e) where
  le : y ≡ environment_length g
  le = q ∙ environment_long g

  -- a table has entries, so the answer is 0 for the environment alone
  won : r ≢ 0 → verdict (separated_of g) ≡ true
  won n = true_of (verdict (separated_of g)) (λ v. n (rw v at W.wins))

  lost : r ≡ 0 → verdict (separated_of g) ≡ false
  lost z = false_of (verdict (separated_of g)) (λ v. absurd (omega (arith, compact_some g a, rw v at W.wins)))

  pub written_system : r ≢ 0 → SolvedCompact g s s' c c' e e' (Ok (System r))
  written_system n =
      let v = won n in
      subst⁻¹ (λ (n : ℕ). SolvedCompact g s s' c c' e e' (Ok (System n))) (rw v at W.wins)
      (subst⁻¹ (λ (t : List ℕ). SolvedCompact g s s' c c' e t (Ok (System (compact_length (separated_of g))))) (rw v at W.environment)
      (solved_system g s c e a h k (subst (λ (n : ℕ). n ≤ length e) le l) s' c' v W.scratch (rw v at W.controller)))

  pub written_environment : r ≡ 0 → SolvedCompact g s s' c c' e e' (Ok (Environment y))
  written_environment z =
      let v = lost z in
      subst⁻¹ (λ (n : ℕ). SolvedCompact g s s' c c' e e' (Ok (Environment n))) le
      (subst⁻¹ (λ (t : List ℕ). SolvedCompact g s s' c t e e' (Ok (Environment (environment_length g)))) (rw v at W.controller)
      (solved_environment g s c e a h k (subst (λ (n : ℕ). n ≤ length e) le l) s' e' v W.scratch
      (rw v at W.environment ∙ ap (λ (n : ℕ). environment_entries (separated_of g) ++ drop n e) (environment_long g))))
