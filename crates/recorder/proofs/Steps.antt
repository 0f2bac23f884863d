-- Two recordings, step by step.
--
--   answer_start, answer_next    : the player begins, then steps
--   accepted_begins, accepted_steps : what it answers to an accepted game
--   ends_both, ends_one          : where the inputs have ended
--   step_fault, step_ended, step_differs, step_same    : what one step shows
--   compared_faulty, compared_misfit, compared_in      : the tests before
--   compares                     : the number
use Prim.Native.Nat.{ℕ, zero, suc, ◌+◌, ◌≤◌, ◌<◌}
use native.Mathlib.Numerals.{add-one}
use mathlib.Core.Path.{◌≡◌, refl, sym, ◌∙◌, ap}
use mathlib.Core.Bool.{Bool, true, false}
use mathlib.Core.List.{List, [], ◌∷◌}
use mathlib.Core.Logic.{◌≢◌}
use native.Mathlib.Omega.{arith}
use lib.ListN.{length, get_or, drop}
use lib.Seq.{drop-cons, drop-drop}
use lib.Dec.{eqb}
use borrow.Author.Tests.{eq-eqb, ne_eqb}
use Rattle.game.specs.declared.InState.{InState}
use Rattle.game.specs.declared.Game.{Game}
use Rattle.game.specs.Acceptance.{accepted, Acceptance}
use Rattle.game.specs.Acceptance.{acceptance}
use Rattle.game.specs.Numbers.{first_of}
use Rattle.game.proofs.Numbers.{after, game_after}
use Rattle.play.specs.Play.{separated_of}
use Rattle.theory.specs.Entries.{controller_entries}
use Rattle.player_place.specs.declared.Position.{Position}
use Rattle.player_place.specs.Played.{Played}
use Rattle.player.specs.Player.{fitting, begun, stepped, after_acceptance, beginning, stepping}
use Rattle.recorder.specs.Compared.{Compared}
use Rattle.recorder.specs.declared.Comparison.TheVariants.{Agree, Differ, Ended, Fault}
use Rattle.recorder.specs.Recorded.{input_of, nowhere, step_judged, ended, answer_at, recorded, compared, fault_by, fault_number, recorder_number, Compares}
use Rattle.std.specs.declared.result.Result.TheVariants.{Ok, Err}
use Rattle.game.specs.declared.Refusal.{Refusal}
use Rattle.game.specs.declared.Refusal.TheVariants.{OtherTable}

module _ (g : Game) (l : List ℕ) (p : Position) (i : InState) where
  pub answer_start : (n : ℕ) {a : Played} → n ≡ 0 → a ≡ beginning g l i → a ≡ answer_at g l n p i
  unfolding answer_at
  answer_start zero e q = q
  answer_start (suc n) e q = absurd (omega arith)

  pub answer_next : (n : ℕ) {a : Played} → n ≢ 0 → a ≡ stepping g l p i → a ≡ answer_at g l n p i
  unfolding answer_at
  answer_next zero e q = absurd (e refl)
  answer_next (suc n) e q = q

-- what the player answers to an accepted game
module _ (g : Game) (l : List ℕ) where
  pub accepted_begins : (i : InState) {a : Played} → acceptance g ≡ accepted → a ≡ begun g l i → a ≡ beginning g l i
  unfolding beginning after_acceptance
  accepted_begins i e q = q ∙ rw e refl

  pub accepted_steps : (p : Position) (i : InState) {a : Played} → acceptance g ≡ accepted → a ≡ stepped g l p i → a ≡ stepping g l p i
  unfolding stepping after_acceptance
  accepted_steps p i e q = q ∙ rw e refl

-- a list that is at its end
past : (os : List ℕ) (n : ℕ) → length os ≤ n → drop n os ≡ []
past [] zero b = refl
past [] (suc n) b = refl
past (o ∷ os) zero b = absurd (omega arith)
past (o ∷ os) (suc n) b = past os n (omega arith)

pub ends_both : (os : List ℕ) (n : ℕ) → length os ≤ n → Ok Agree ≡ ended (drop n os) n
unfolding ended
ends_both os n b = sym (ap (λ (x : List ℕ). ended x n) (past os n b))

pub ends_one : (os : List ℕ) (n : ℕ) → n < length os → Ok (Ended n) ≡ ended (drop n os) n
unfolding ended
ends_one os n b = sym (ap (λ (x : List ℕ). ended x n) (drop-cons os n 0 b))

module _ (g : Game) (l is os : List ℕ) (n : ℕ) (p : Position) where
  pub at_end_lem : length is ≤ n → {r : Compared} → r ≡ ended (drop n os) n → r ≡ recorded g l (drop n is) (drop n os) n p
  unfolding recorded
  at_end_lem b e = e ∙ sym (ap (λ (x : List ℕ). recorded g l x (drop n os) n p) (past is n b))

  -- k is the input of step n, and a the player's answer to it
  module _ (b : n < length is) (k : ℕ) (h : k ≡ get_or is n 0) (a : Played) (e : a ≡ answer_at g l n p (input_of k)) where
    shows : recorded g l (drop n is) (drop n os) n p ≡ step_judged a (drop n os) n (recorded g l (drop (suc n) is) (drop 1 (drop n os)) (suc n))
    unfolding recorded
    shows =
        ap (λ (x : List ℕ). recorded g l x (drop n os) n p) (drop-cons is n 0 b)
        ∙ ap (λ (x : Played). step_judged x (drop n os) n (recorded g l (drop (suc n) is) (drop 1 (drop n os)) (suc n)))
        (sym (e ∙ ap (λ (i : ℕ). answer_at g l n p (input_of i)) h))

    pub step_fault : (c : Refusal) → a ≡ Err c → Ok (Fault n c) ≡ recorded g l (drop n is) (drop n os) n p
    unfolding step_judged
    step_fault c q = sym (shows ∙ ap (λ (x : Played). step_judged x (drop n os) n (recorded g l (drop (suc n) is) (drop 1 (drop n os)) (suc n))) q)

    module _ (r : Position) (q : a ≡ Ok r) where
      went : recorded g l (drop n is) (drop n os) n p ≡ step_judged (Ok r) (drop n os) n (recorded g l (drop (suc n) is) (drop 1 (drop n os)) (suc n))
      went = shows ∙ ap (λ (x : Played). step_judged x (drop n os) n (recorded g l (drop (suc n) is) (drop 1 (drop n os)) (suc n))) q

      pub step_ended : length os ≤ n → Ok (Ended n) ≡ recorded g l (drop n is) (drop n os) n p
      unfolding step_judged
      step_ended d = sym (went ∙ ap (λ (x : List ℕ). step_judged (Ok r) x n (recorded g l (drop (suc n) is) (drop 1 (drop n os)) (suc n))) (past os n d))

      looked : n < length os → step_judged (Ok r) (drop n os) n (recorded g l (drop (suc n) is) (drop 1 (drop n os)) (suc n))
          ≡ elim (eqb r.output.0 (get_or os n 0)) [ true ↦ recorded g l (drop (suc n) is) (drop 1 (drop n os)) (suc n) r | false ↦ Ok (Differ n) ]
      unfolding step_judged
      looked d = ap (λ (x : List ℕ). step_judged (Ok r) x n (recorded g l (drop (suc n) is) (drop 1 (drop n os)) (suc n))) (drop-cons os n 0 d)

      pub step_differs : n < length os → (o : ℕ) → o ≡ get_or os n 0 → r.output.0 ≢ o → Ok (Differ n) ≡ recorded g l (drop n is) (drop n os) n p
      step_differs d o i f = sym (went ∙ looked d ∙ rw (ne_eqb r.output.0 (get_or os n 0) (λ z. f (z ∙ sym i))) refl)

      pub step_same : n < length os → (o : ℕ) → o ≡ get_or os n 0 → r.output.0 ≡ o
          → recorded g l (drop n is) (drop n os) n p ≡ recorded g l (drop (n + 1) is) (drop (n + 1) os) (n + 1) r
      step_same d o i f =
          went ∙ looked d ∙ rw (eq-eqb r.output.0 (get_or os n 0) (f ∙ i))
          (ap (λ (x : List ℕ). recorded g l (drop (suc n) is) x (suc n) r) (drop-drop 1 n os ∙ ap (λ (j : ℕ). drop j os) (add-one n))
          ∙ ap (λ (j : ℕ). recorded g l (drop j is) (drop j os) j r) (sym (add-one n)))

module _ (g : Game) (l is os : List ℕ) where
  pub compared_faulty : (n : Refusal) → acceptance g ≡ Err n → Err n ≡ compared g l is os
  unfolding compared
  compared_faulty n e = sym (rw (e, compared) refl)

  pub compared_misfit : acceptance g ≡ accepted → length l ≢ length (controller_entries (separated_of g)) → Err OtherTable ≡ compared g l is os
  unfolding compared fitting
  compared_misfit e f = sym (rw (e, compared) (rw (ne_eqb (length l) (length (controller_entries (separated_of g))) f, fitting) refl))

  pub compared_in : acceptance g ≡ accepted → length l ≡ length (controller_entries (separated_of g)) → {r : Compared} → r ≡ recorded g l is os 0 nowhere
      → r ≡ compared g l is os
  unfolding compared fitting
  compared_in e f q = q ∙ sym (rw (e, compared) (rw (eq-eqb (length l) (length (controller_entries (separated_of g))) f, fitting) refl))

-- ---- the number

judged_number : (a : Played) (os : List ℕ) (n : ℕ) (k : Position → Compared) (f : Position → ℕ) → ((p : Position) → recorder_number (k p) ≡ f p)
    → recorder_number (step_judged a os n k) ≡ fault_by a os f
unfolding step_judged fault_by
judged_number (Err c) os n k f h = refl
judged_number (Ok p) [] n k f h = refl
judged_number (Ok p) (o ∷ os) n k f h = go (eqb p.output.0 o)
  where
    go : (b : Bool) → recorder_number (elim b as (λ x. Compared) [ true ↦ k p | false ↦ Ok (Differ n) ]) ≡ elim b as (λ x. ℕ) [ true ↦ f p | false ↦ 0 ]
    go true = h p
    go false = refl

ended_number : (os : List ℕ) (n : ℕ) → recorder_number (ended os n) ≡ 0
unfolding ended
ended_number [] n = refl
ended_number (o ∷ os) n = refl

recorded_number : (g : Game) (l is os : List ℕ) (n : ℕ) (p : Position) → recorder_number (recorded g l is os n p) ≡ fault_number g l is os n p
unfolding recorded fault_number
recorded_number g l [] os n p = ended_number os n
recorded_number g l (i ∷ is) os n p =
    judged_number (answer_at g l n p (input_of i)) os n (recorded g l is (drop 1 os) (suc n)) (fault_number g l is (drop 1 os) (suc n))
    (λ q. recorded_number g l is (drop 1 os) (suc n) q)

module _ (g : Game) (l is os : List ℕ) where
  abbrev rest : Bool → List (ℕ × Bool)
  rest b = (16, b) ∷ (fault_number g l is os 0 nowhere, false) ∷ []

  fitting_number : (b : Bool) → recorder_number (elim b as (λ x. Compared) [ true ↦ recorded g l is os 0 nowhere | false ↦ Err OtherTable ]) ≡ first_of (rest b)
  unfolding first_of
  fitting_number true = recorded_number g l is os 0 nowhere
  fitting_number false = refl

  compared_number : (a : Acceptance)
      → recorder_number (elim a as (λ x. Compared) [
        | Ok u ↦ elim (fitting g l) [ true ↦ recorded g l is os 0 nowhere | false ↦ Err OtherTable ]
        | Err n ↦ Err n
      ]) ≡ after a (first_of (rest (fitting g l)))
  compared_number (Ok u) = fitting_number (fitting g l)
  compared_number (Err n) = refl

  pub compares : {r : Compared} → r ≡ compared g l is os → Compares g l is os r
  unfolding compared
  compares h = record { answer = h; number = ap recorder_number h ∙ compared_number (acceptance g) ∙ sym (game_after g (rest (fitting g l))) }
