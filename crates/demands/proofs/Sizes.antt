-- An accepted game is small enough for the entries.
use Prim.Native.Nat.{ℕ, zero, suc, ◌+◌, ◌*◌, ◌≤◌, ◌<◌}
use native.Mathlib.Nat.{max-le, add-zero, zero-add}
use mathlib.Core.Path.{◌≡◌, sym, subst}
use mathlib.Core.Bool.{Bool}
use mathlib.Core.List.{List}
use native.Mathlib.Omega.{arith}
use lib.ListN.{length, get_or, length-append}
use Rattle.sets.specs.Words.{bits_of}
use Rattle.finite.specs.Tabulate.{tabulate, tabulate_from}
use Rattle.finite.proofs.Tabulate.{length_tabulate}
use Rattle.bits.specs.Member.{has}
use Rattle.arena.specs.Arena.{Requirement}
use Rattle.game.specs.declared.Game.{Game}
use Rattle.game.specs.declared.Requirement.{Requirement as RequirementRecord}
use Rattle.game.specs.Access.{no_input, no_output, requirement_at}
use Rattle.game.specs.Acceptance.{accepted, acceptance}
use Rattle.game.proofs.Laws.{Fits, accepted_fits}
use Rattle.play.specs.Play.{graph_of, requirement_of, requirements_of, separated_of}
use Rattle.theory.specs.Choice.{sets_of, guarantees, assumptions}
use Rattle.theory.specs.Entries.{controller_counters, environment_counters}
use Rattle.theory.proofs.Entries.{Sized}

-- few sets in each of k requirements are few in all

sets_few : (f : Requirement → List (ℕ → Bool)) (h : ℕ → Requirement) (s k : ℕ)
    → ((r : ℕ) → r < k → length (f (h (s + r))) ≤ 4) → length (sets_of f (tabulate_from s k h)) ≤ 4 * k
unfolding sets_of tabulate_from
sets_few f h s zero e = omega arith
sets_few f h s (suc k) e =
    omega (
      arith,
      length-append (f (h s)) (sets_of f (tabulate_from (suc s) k h)),
      subst (λ (n : ℕ). length (f (h n)) ≤ 4) (add-zero s) (e 0 (omega arith)),
      sets_few f h (suc s) k (λ r b. subst (λ (n : ℕ). length (f (h n)) ≤ 4) (omega arith) (e (suc r) (omega arith))),
    )

sets_at_most : (f : Requirement → List (ℕ → Bool)) (h : ℕ → Requirement) (k : ℕ)
    → ((r : ℕ) → r < k → length (f (h r)) ≤ 4) → length (sets_of f (tabulate k h)) ≤ 4 * k
unfolding tabulate
sets_at_most f h k e = sets_few f h 0 k (λ r b. subst (λ (n : ℕ). length (f (h n)) ≤ 4) (sym (zero-add r)) (e r b))

few_guarantees : (q : RequirementRecord) → q.guaranteed ≤ 4 → length (requirement_of q).guarantees ≤ 4
unfolding requirement_of
few_guarantees q h = omega (arith, length_tabulate (λ j. has (bits_of (get_or q.guarantees j no_output).0)) q.guaranteed)

few_assumptions : (q : RequirementRecord) → q.assumed ≤ 4 → length (requirement_of q).assumptions ≤ 4
unfolding requirement_of
few_assumptions q h = omega (arith, length_tabulate (λ j. has (bits_of (get_or q.assumptions j no_input).0)) q.assumed)

module _ (g : Game) (F : Fits g) where
  pub guarantees_few : length (guarantees (separated_of g)) ≤ 32
  unfolding guarantees separated_of requirements_of
  guarantees_few =
      omega (
        arith,
        F.few,
        sets_at_most (λ (q : Requirement). q.guarantees) (λ r. requirement_of (requirement_at g r)) g.k
            (λ r b. few_guarantees (requirement_at g r) (F.requirement r (omega (arith, F.few))).few_guaranteed),
      )

  pub assumptions_few : length (assumptions (separated_of g)) ≤ 32
  unfolding assumptions separated_of requirements_of
  assumptions_few =
      omega (
        arith,
        F.few,
        sets_at_most (λ (q : Requirement). q.assumptions) (λ r. requirement_of (requirement_at g r)) g.k
            (λ r b. few_assumptions (requirement_at g r) (F.requirement r (omega (arith, F.few))).few_assumed),
      )

  pub controller_few : controller_counters (separated_of g) ≤ 32
  unfolding controller_counters
  controller_few = max-le (omega arith) guarantees_few

  pub environment_few : environment_counters (separated_of g) ≤ 32
  unfolding environment_counters
  environment_few = max-le (omega arith) assumptions_few

  fits_sized : Sized (separated_of g)
  unfolding separated_of graph_of
  fits_sized = record {
    inputs = F.input.most;
    outputs = F.output.most;
    controller = omega (arith, controller_few);
    environment = omega (arith, environment_few);
  }

pub accepted_sized : (g : Game) → acceptance g ≡ accepted → Sized (separated_of g)
accepted_sized g a = fits_sized g (accepted_fits g a)
