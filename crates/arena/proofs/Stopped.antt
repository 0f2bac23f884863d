-- A table that wins is never the one that is stopped.
use Prim.Native.Nat.{ℕ, ◌<◌}
use mathlib.Core.Path.{◌≡◌, refl}
use mathlib.Core.Bool.{Bool, true, false}
use mathlib.Core.Logic.{◌⊎◌, inl, inr}
use Rattle.finite.specs.Bounded.{any}
use Rattle.finite.proofs.Truth.{decide, clash, false_of}
use Rattle.finite.proofs.Bounded.{any_intro, any_elim}
use Rattle.arena.specs.Arena.{Arena}
use Rattle.arena.specs.Bounds.{Bounded}
use Rattle.arena.specs.Table.{ControllerTable, EnvironmentTable}
use Rattle.arena.specs.Play.{Configuration, ControllerFirst, ControllerTurn, EnvironmentFirst, EnvironmentTurn, Reachable}
use Rattle.arena.specs.Win.{ControllerWins, EnvironmentWins, Outcome, system, environment, DemandThree}
use Rattle.arena.specs.Stopped.{Replied, ControllerNeverStopped, Asked, EnvironmentNeverStopped, NeverStopped}

-- whether some number has p, where only numbers below n may
some_or_none : (n : ℕ) (p : ℕ → Bool) → ((k : ℕ) → p k ≡ true → k < n) → ((k : ℕ) → p k ≡ false) ⊎ ((k : ℕ) × (p k ≡ true))
some_or_none n p below =
    elim (decide (any n p)) [
      | inl e ↦ let v = any_elim n p e in inr (v.0, v.2)
      | inr e ↦ inl (λ k. false_of (p k) (λ h. clash (any_intro n p k (below k h) h) e))
    ]

module _ {A : Arena} (B : Bounded A) {T : ControllerTable} (W : ControllerWins A T) where
  replied : (c : Configuration) → Reachable (ControllerFirst A T) (ControllerTurn A T) c → (j : ℕ) → A.in_move c.input j ≡ true → Replied A T c j
  replied c r j e =
      let s = W.steps c r j e in
      record {
        next = record { input = j; output = s.state; memory = s.memory };
        input = refl;
        turn = record { move = e; step = s.names };
      }

  first : (i : ℕ) → A.in_initial i ≡ true → (c : Configuration) × ControllerFirst A T c × (c.input ≡ i)
  first i e =
      let s = W.starts i e in
      (record { input = i; output = s.state; memory = s.memory }, record { initial = e; start = s.names }, refl)

  controller_never_stopped : ControllerNeverStopped A T
  controller_never_stopped = record {
    begins = first;
    onward = λ c r.
        elim (some_or_none A.inputs (A.in_move c.input) (B.move c.input)) [ inl n ↦ inl n | inr v ↦ inr (v, replied c r) ];
    other = λ c r n j. false_of (A.in_move c.input j) (λ e. let v = replied c r j e in n v.next v.turn);
  }

module _ {A : Arena} (B : Bounded A) {P : EnvironmentTable} (W : EnvironmentWins A P) where
  asked : (c : Configuration) → Reachable (EnvironmentFirst A P) (EnvironmentTurn A P) c → Asked A P c
  asked c r = let s = W.steps c r in record { memory = s.memory; input = s.state; names = s.names }

  goes_on : (c : Configuration) (a : Asked A P c) (p : ℕ) → A.reply a.input c.output p ≡ true
      → EnvironmentTurn A P c (record { input = a.input; output = p; memory = a.memory })
  goes_on c a p e = record { step = a.names; reply = e }

  environment_never_stopped : EnvironmentNeverStopped A P
  environment_never_stopped = record {
    begins = W.starts;
    onward = λ c r.
        let a = asked c r in (
          a,
          elim (some_or_none A.outputs (A.reply a.input c.output) (B.reply a.input c.output)) [
            | inl n ↦ inl n
            | inr v ↦ inr (record { input = a.input; output = v.0; memory = a.memory }, goes_on c a v.0 v.1)
          ],
        );
    other = λ c r n.
        let a = asked c r in
        (a, λ p. false_of (A.reply a.input c.output p) (λ e. n (record { input = a.input; output = p; memory = a.memory }) (goes_on c a p e)));
  }

-- The table handed over is never the one that is stopped.
pub never_stopped : {A : Arena} → Bounded A → (v : Outcome) → DemandThree A v → NeverStopped A v
unfolding DemandThree NeverStopped
never_stopped B (system T) d = controller_never_stopped B d.0
never_stopped B (environment P) d = environment_never_stopped B d.0
