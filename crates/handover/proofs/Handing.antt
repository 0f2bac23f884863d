-- The table handed over as a part of its buffer.
use Prim.Native.Nat.{ℕ, ◌≤◌}
use native.Mathlib.Omega.{arith}
use mathlib.Core.Path.{◌≡◌, refl, sym, ◌∙◌, ap, subst}
use mathlib.Core.Bool.{Bool, true, false}
use mathlib.Core.List.{List, ◌++◌}
use lib.Dec.{leb}
use lib.ListN.{length, take, drop}
use lib.Seq.{take-append_seam}
use borrow.Author.Tests.{leb-true}
use Rattle.game.specs.declared.Game.{Game}
use Rattle.game.specs.Refusals.{number}
use Rattle.game.specs.Acceptance.{Acceptance, acceptance}
use Rattle.game.proofs.Refusals.{refused_code}
use Rattle.play.specs.Play.{separated_of}
use Rattle.theory.specs.Region.{verdict}
use Rattle.theory.specs.Entries.{controller_entries, environment_entries}
use Rattle.scratch.specs.Scratch.{scratch_length}
use Rattle.solver.specs.Verdict.{Verdict}
use Rattle.solver.specs.declared.Winner.{Winner}
use Rattle.solver.specs.declared.Winner.TheVariants.{System, Environment}
use Rattle.solver.specs.Promise.{
  controller_length,
  environment_length,
  named,
  environment_tested,
  controller_tested,
  scratch_tested,
  verdict_answer,
  controller_after,
  environment_after,
  Decided,
  Solved,
}
use Rattle.handover.specs.Handed.{side, chosen, front, Beaten, Handed}
use Rattle.solver.proofs.Verdicts.{controller_long, environment_long}
use Rattle.std.specs.declared.result.Result.TheVariants.{Ok, Err}
use Rattle.game.specs.declared.Refusal.{Refusal}
use Rattle.game.specs.declared.Refusal.TheVariants.{ShortController, ShortPanel, ShortScratch}

-- the winner that a verdict names
pub names : {v : Verdict} {w x : Winner} → v ≡ Ok w → w ≡ x → v ≡ Ok x
names e h = e ∙ ap Ok h

-- ---- a verdict's length is its table's and at most its buffer's; a refusal's number is 1 to 10

unfoldable pub Told : Game → ℕ → ℕ → Verdict → Type 0
Told g c e (Ok (System n)) = (n ≡ controller_length g) × (n ≤ c)
Told g c e (Ok (Environment n)) = (n ≡ environment_length g) × (n ≤ e)
Told g c e (Err r) = (1 ≤ number r) × (number r ≤ 10)

module _ (g : Game) (s c e : ℕ) where
  told_named : controller_length g ≤ c → environment_length g ≤ e → (b : Bool)
      → Told g c e (elim b as (λ x. Verdict) [ true ↦ Ok (System (controller_length g)) | false ↦ Ok (Environment (environment_length g)) ])
  unfolding Told
  told_named k l true = (refl, k)
  told_named k l false = (refl, l)

  told_environment_test : controller_length g ≤ c → (b : Bool) → leb (environment_length g) e ≡ b
      → Told g c e (elim b as (λ x. Verdict) [ true ↦ named g | false ↦ Err ShortPanel ])
  unfolding Told named
  told_environment_test k true h = told_named k (leb-true (environment_length g) e h) (verdict (separated_of g))
  told_environment_test k false h = (omega arith, omega arith)

  told_controller_test : (b : Bool) → leb (controller_length g) c ≡ b
      → Told g c e (elim b as (λ x. Verdict) [ true ↦ environment_tested g e | false ↦ Err ShortController ])
  unfolding Told environment_tested
  told_controller_test true h = told_environment_test (leb-true (controller_length g) c h) (leb (environment_length g) e) refl
  told_controller_test false h = (omega arith, omega arith)

  told_scratch_test : (b : Bool) → Told g c e (elim b as (λ x. Verdict) [ true ↦ controller_tested g c e | false ↦ Err ShortScratch ])
  unfolding Told controller_tested
  told_scratch_test true = told_controller_test (leb (controller_length g) c) refl
  told_scratch_test false = (omega arith, omega arith)

  told_acceptance : (a : Acceptance) → acceptance g ≡ a → Told g c e (elim a as (λ x. Verdict) [ Ok u ↦ scratch_tested g s c e | Err n ↦ Err n ])
  unfolding Told scratch_tested
  told_acceptance (Ok u) h = told_scratch_test (leb (scratch_length g) s)
  told_acceptance (Err n) h = let r = refused_code g n h in (r.0, omega (arith, r.1))

  pub told_answer : Told g c e (verdict_answer g s c e)
  unfolding verdict_answer
  told_answer = told_acceptance (acceptance g) refl

-- ---- what is handed over

module _ (g : Game) (s s' c c' e e' : List ℕ) where
  -- the filled front of a buffer is as long as the table
  told : {v : Verdict} → Solved g s s' c c' e e' v → Told g (length c) (length e) v
  told S = subst (Told g (length c) (length e)) (sym S.answer) (told_answer g (length s) (length c) (length e))

  as_told : {v w : Verdict} → Solved g s s' c c' e e' v → v ≡ w → Solved g s s' c c' e e' w
  as_told S q = subst (Solved g s s' c c' e e') q S

  system_part : {n : ℕ} → Solved g s s' c c' e e' (Ok (System n)) → take n c' ≡ controller_entries (separated_of g)
  unfolding Told controller_after
  system_part {n} S =
      ap (take n) S.controller ∙ ap (λ (k : ℕ). take k (controller_entries (separated_of g) ++ drop n c)) ((told S).0 ∙ sym (controller_long g))
      ∙ take-append_seam (controller_entries (separated_of g)) (drop n c)

  environment_part : {n : ℕ} → Solved g s s' c c' e e' (Ok (Environment n)) → take n e' ≡ environment_entries (separated_of g)
  unfolding Told environment_after
  environment_part {n} S =
      ap (take n) S.environment ∙ ap (λ (k : ℕ). take k (environment_entries (separated_of g) ++ drop n e)) ((told S).0 ∙ sym (environment_long g))
      ∙ take-append_seam (environment_entries (separated_of g)) (drop n e)

  pub system_count : {v : Verdict} {n : ℕ} → Solved g s s' c c' e e' v → v ≡ Ok (System n) → n ≡ length (take n c')
  unfolding Told
  system_count S q = let T = as_told S q in (told T).0 ∙ sym (controller_long g) ∙ sym (ap length (system_part T))

  pub environment_count : {v : Verdict} {n : ℕ} → Solved g s s' c c' e e' v → v ≡ Ok (Environment n) → n ≡ length (take n e')
  unfolding Told
  environment_count S q = let T = as_told S q in (told T).0 ∙ sym (environment_long g) ∙ sym (ap length (environment_part T))

  module _ (b : Bool) (p q : ℕ × ℕ) where
    abbrev Hands : Verdict → ℕ → Bool → ℕ × ℕ → List ℕ → Type 0
    Hands v n b' r t = Handed g v s s' n b b' p q r t

    abbrev Answers : ℕ → Bool → ℕ × ℕ → List ℕ → Type 0
    Answers n b' r t = Hands (verdict_answer g (length s) (length c) (length e)) n b' r t

    answers : {v w : Verdict} {n : ℕ} {b' : Bool} {r : ℕ × ℕ} {t : List ℕ} → Solved g s s' c c' e e' v → v ≡ w → Hands w n b' r t → Answers n b' r t
    answers {n = n} {b'} {r} {t} S h H = subst (λ (x : Verdict). Hands x n b' r t) (sym h ∙ S.answer) H

    pub hands_system : {v : Verdict} {n : ℕ} → Solved g s s' c c' e e' v → v ≡ Ok (System n) → Answers 0 true p (take n c')
    unfolding Decided side chosen front Beaten
    hands_system S h =
        let T = as_told S h in
        answers S h record { scratch = T.scratch; refusal = refl; system = refl; buffer = refl; part = system_part T; demand = T.demand }

    pub hands_environment : {v : Verdict} {n : ℕ} → Solved g s s' c c' e e' v → v ≡ Ok (Environment n) → Answers 0 false q (take n e')
    unfolding Decided side chosen front Beaten
    hands_environment S h =
        let T = as_told S h in
        answers S h record { scratch = T.scratch; refusal = refl; system = refl; buffer = refl; part = environment_part T; demand = T.demand }

    pub hands_nothing : {v : Verdict} {r : Refusal} {n : ℕ} → Solved g s s' c c' e e' v → v ≡ Err r → n ≡ number r → Answers n b p (take 0 c')
    unfolding side chosen front Beaten
    hands_nothing S h z =
        let T = as_told S h in
        answers S h record { scratch = T.scratch; refusal = z; system = refl; buffer = refl; part = refl; demand = tt }
