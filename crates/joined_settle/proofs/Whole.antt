-- A component is settled.
--
--   swept_self, swept_then           : sweeps, one after the other
--   unsettled_rows, -below           : what is to be settled are positions
--   force_start                      : before the first position is marked
--   safe_start, joined_swept         : the whole component is marked
--   settled_by_force, settled_safely : where the sweeps end, the marks are right
use Prim.Native.Nat.{ℕ, ◌<◌}
use mathlib.Core.Path.{◌≡◌, refl, sym, ◌∙◌, ap, ap₂, subst}
use mathlib.Core.Bool.{Bool, true, false, ◌||◌}
use mathlib.Core.List.{List}
use mathlib.Core.Logic.{◌⊎◌, inl, inr}
use Rattle.finite.proofs.Truth.{clash, or_left, or_right, or_cases, or_none, same_test}
use Rattle.finite.specs.But.{ButFor}
use Rattle.finite.proofs.But.{but_self, but_then}
use Rattle.joint.specs.Solver.{recurring, Component, Ahead, Below, Above, Forced, Safe}
use Rattle.joint.proofs.Settled.{settled_forced, settled_safe, ahead_kept}
use Rattle.game.specs.declared.Game.{Game}
use Rattle.play.specs.Play.{graph_of, separated_of}
use Rattle.joined_reach.specs.Words.{Small}
use Rattle.joined_reach.proofs.Words.{belongs_has, belongs_below}
use Rattle.joined_component.specs.Component.{won, component, Rows, Joined}
use Rattle.joined_settle.specs.Settle.{Growing, Shrinking, Swept, Unsettled, ComponentSettled}
use Rattle.joined_settle.proofs.Replies.{component_same}

pub swept_self : (g : Game) (l : List ℕ) → Swept g l l
swept_self g l = record { kept = but_self 64 96 l; outside = λ i o h. refl }

pub swept_then : (g : Game) → Small g → {l m n : List ℕ} → Swept g l m → Swept g m n → Swept g l n
swept_then g S A B = record {
  kept = but_then A.kept B.kept;
  outside = λ i o h. B.outside i o (ap (λ (D : ℕ → ℕ → Bool). D i o) (component_same g S A.kept) ∙ h) ∙ A.outside i o h;
}

module _ (g : Game) (S : Small g) (i o : ℕ) (l : List ℕ) (U : Unsettled g i o l) where
  pub unsettled_rows : Rows g l
  unfolding separated_of graph_of
  unsettled_rows = record { outputs = U.whole.outputs }

  pub unsettled_below : (i < g.input.states) × (o < g.output.states)
  unfolding separated_of graph_of
  unsettled_below = (U.whole.inputs i o U.root, U.whole.outputs i o U.root)

  pub force_start : Growing g l
  force_start = record {
    whole = U.whole;
    ahead = U.ahead;
    below = record { won = λ j p h w. clash w (U.apart j p h) };
    within = U.within;
  }

  module _ (m : List ℕ) (J : Joined g 64 l m) where
    join_kept : ButFor 64 96 l m
    join_kept = J.kept

    same : component g m ≡ component g l
    same = component_same g S join_kept

    both : (j p : ℕ) → j < g.input.states → won g m j p ≡ (won g l j p || component g l j p)
    both j p b =
        belongs_has g.input.states 64 m j p b ∙ J.rows j p b
        ∙ ap₂ ◌||◌ (sym (belongs_has g.input.states 64 l j p b)) (sym (belongs_has g.input.states 128 l j p b))

    apart : (j p : ℕ) → component g l j p ≡ false → won g m j p ≡ won g l j p
    apart j p h =
        same_test (won g m j p) (won g l j p)
        (λ w. let b = belongs_below g.input.states 64 m j p w in sym (or_none (won g l j p) h) ∙ sym (both j p b) ∙ w)
        (λ w. let b = belongs_below g.input.states 64 l j p w in both j p b ∙ or_left (component g l j p) w)

    pub safe_start : Shrinking g m
    unfolding separated_of graph_of
    safe_start = record {
      whole = subst (λ (E : ℕ → ℕ → Bool). Component (separated_of g) E) (sym same) U.whole;
      ahead = subst (λ (E : ℕ → ℕ → Bool). Ahead (separated_of g) E (won g m)) (sym same)
          (ahead_kept (separated_of g) (component g l) (won g l) (won g m) (λ j p a b h. apart j p h) U.ahead);
      above = subst (λ (E : ℕ → ℕ → Bool). Above (separated_of g) E (won g m)) (sym same)
          (record { held = λ j p h r. both j p (belongs_below g.input.states 128 l j p h) ∙ or_right (won g l j p) h });
      within = λ j p w. within j p (or_cases (won g l j p) (component g l j p) (sym (both j p (belongs_below g.input.states 64 m j p w)) ∙ w));
    }
      where
        within : (j p : ℕ) → (won g l j p ≡ true) ⊎ (component g l j p ≡ true) → p < g.output.states
        within j p (inl h) = U.within j p h
        within j p (inr h) = U.whole.outputs j p h

    pub joined_swept : Swept g l m
    joined_swept = record { kept = join_kept; outside = apart }

  -- what the component is afterwards
  module _ (m : List ℕ) (W : Swept g l m) where
    after : component g m ≡ component g l
    after = component_same g S W.kept

    pub settled_by_force : recurring (separated_of g) (component g l) i o ≡ false → Growing g m
        → Forced (separated_of g) (component g m) (won g m) → ComponentSettled g l m
    settled_by_force r G F = record {
      swept = W;
      right = λ j p h. settled_forced (separated_of g) (component g l) (won g m) U.whole
          (subst (λ (E : ℕ → ℕ → Bool). Ahead (separated_of g) E (won g m)) after G.ahead) i o U.root r
          (subst (λ (E : ℕ → ℕ → Bool). Below (separated_of g) E (won g m)) after G.below)
          (subst (λ (E : ℕ → ℕ → Bool). Forced (separated_of g) E (won g m)) after F) j p h;
      within = G.within;
    }

    pub settled_safely : recurring (separated_of g) (component g l) i o ≡ true → Shrinking g m
        → Safe (separated_of g) (component g m) (won g m) → ComponentSettled g l m
    settled_safely r G F = record {
      swept = W;
      right = λ j p h. settled_safe (separated_of g) (component g l) (won g m) U.whole
          (subst (λ (E : ℕ → ℕ → Bool). Ahead (separated_of g) E (won g m)) after G.ahead) i o U.root r
          (subst (λ (E : ℕ → ℕ → Bool). Above (separated_of g) E (won g m)) after G.above)
          (subst (λ (E : ℕ → ℕ → Bool). Safe (separated_of g) E (won g m)) after F) j p h;
      within = G.within;
    }
