-- The order of the solver: component by component, from the last ones backward. Each of these is one step of the code.
--
--   settled_forced                        : a component that is not accepting is settled where W can't grow any more
--   settled_safe                          : an accepting one where every member in W forces W
--   ahead_kept, below_put, above_taken    : what is kept where W changes in the component
--   settled_start                         : before the first component
--   settled_ahead                         : W is right wherever a component leads whose number of positions ahead comes next
--   settled_apart                         : W has nothing of a component that is not settled
--   settled_add                           : a component more
--   settled_next                          : all components with r positions ahead
--   settled_end                           : W is the region
use Prim.Native.Nat.{ℕ, suc, ◌*◌, ◌<◌}
use mathlib.Core.Path.{◌≡◌, sym, ◌∙◌}
use mathlib.Core.Bool.{Bool, true, false, ◌||◌}
use mathlib.Core.Logic.{◌⊎◌, inl, inr}
use native.Mathlib.Omega.{arith}
use Rattle.finite.proofs.Truth.{decide, clash, false_of, or_left, or_right, or_cases, same_test}
use Rattle.finite.proofs.Bounded.{below_suc}
use Rattle.graphs.specs.Graph.{edge}
use Rattle.graphs.proofs.Graph.{edge_to}
use Rattle.arena.specs.Arena.{Separated}
use Rattle.theory.specs.Region.{region}
use Rattle.joint.specs.Joint.{joined_at, rank_at}
use Rattle.joint.specs.Solver.{recurring, Component, Ahead, Below, Above, Forced, Safe, Settled}
use Rattle.joint.proofs.Order.{rank_at_pos, rank_at_le, rank_at_same, next_rank}
use Rattle.joint.proofs.Accepting.{members, recurring_nontrivial, recurring_accepting, not_recurring}
use Rattle.joint.proofs.Forced.{forced}
use Rattle.joint.proofs.Safe.{safe}

module _ (S : Separated) (D W : ℕ → ℕ → Bool) (C : Component S D) (A : Ahead S D W) (i o : ℕ) (root : D i o ≡ true) where
  pub settled_forced : recurring S D i o ≡ false → Below S D W → Forced S D W → (j p : ℕ) → D j p ≡ true → W j p ≡ region S j p
  settled_forced h B F j p k =
      same_test (W j p) (region S j p) (B.won j p k) (forced S D W C A F (not_recurring S D C i o root h) j p k)

  pub settled_safe : recurring S D i o ≡ true → Above S D W → Safe S D W → (j p : ℕ) → D j p ≡ true → W j p ≡ region S j p
  settled_safe h B F j p k =
      same_test (W j p) (region S j p) (safe S D W C A F (recurring_nontrivial S D C i o root h) (recurring_accepting S D C i o root h) j p k) (B.held j p k)

-- W changes inside D alone
module _ (S : Separated) (D W X : ℕ → ℕ → Bool) where
  pub ahead_kept : ((j p : ℕ) → j < S.input.states → p < S.output.states → D j p ≡ false → X j p ≡ W j p) → Ahead S D W → Ahead S D X
  ahead_kept f A = record {
    right = λ i o j p h e g d. f j p (edge_to S.input i j e) (edge_to S.output o p g) d ∙ A.right i o j p h e g d;
  }

  -- X is W with won positions more
  pub below_put : ((j p : ℕ) → D j p ≡ true → X j p ≡ true → (W j p ≡ true) ⊎ (region S j p ≡ true)) → Below S D W → Below S D X
  below_put f B = record { won = λ j p d v. elim (f j p d v) [ inl w ↦ B.won j p d w | inr r ↦ r ] }

  -- X is W without positions that are not won
  pub above_taken : ((j p : ℕ) → D j p ≡ true → W j p ≡ true → (X j p ≡ true) ⊎ (region S j p ≡ false)) → Above S D W → Above S D X
  above_taken f B = record { held = λ j p d h. elim (f j p d (B.held j p d h)) [ inl v ↦ v | inr r ↦ clash h r ] }

module _ (S : Separated) where
  pub settled_start : (K W : ℕ → ℕ → Bool) → ((i o : ℕ) → i < S.input.states → o < S.output.states → K i o ≡ false)
      → ((i o : ℕ) → i < S.input.states → o < S.output.states → W i o ≡ false) → Settled S 1 K W
  settled_start K W k w = record {
    done = λ i o a b l. absurd (omega (arith, rank_at_pos S i o a b, l));
    whole = λ i o j p a b c d h t. clash h (k i o a b);
    within = λ i o a b h. clash h (w i o a b);
    right = λ i o a b h. clash h (k i o a b);
  }

  module _ (r : ℕ) (K W : ℕ → ℕ → Bool) (Z : Settled S r K W) where
    module _ (D : ℕ → ℕ → Bool) (C : Component S D) (i o : ℕ) (root : D i o ≡ true) where
      pub settled_ahead : rank_at S i o ≡ r → Ahead S D W
      settled_ahead e = record { right = λ j p k q h f g d. go j p k q h f g d (next_rank S j p k q f g) }
        where
          go : (j p k q : ℕ) → D j p ≡ true → edge S.input j k ≡ true → edge S.output p q ≡ true → D k q ≡ false
              → (joined_at S j p k q ≡ true) ⊎ (rank_at S k q < rank_at S j p) → W k q ≡ region S k q
          go j p k q h f g d (inl t) = clash (C.exact j p k q h (edge_to S.input j k f) (edge_to S.output p q g) ∙ t) d
          go j p k q h f g d (inr l) =
              let a = edge_to S.input j k f in
              let b = edge_to S.output p q g in
              Z.right k q a b (Z.done k q a b (omega (arith, l, rank_at_same S i o j p (members S D C i o j p root h), e)))

      pub settled_apart : K i o ≡ false → (j p : ℕ) → D j p ≡ true → W j p ≡ false
      settled_apart n j p h =
          let a = C.inputs j p h in
          let b = C.outputs j p h in
          false_of (W j p)
          (λ w. clash
          (Z.whole j p i o a b (C.inputs i o root) (C.outputs i o root) (Z.within j p a b w) (members S D C j p i o h root)) n)

    pub settled_add : (D L X : ℕ → ℕ → Bool) → Component S D
        → ((i o : ℕ) → i < S.input.states → o < S.output.states → L i o ≡ (K i o || D i o))
        → ((i o : ℕ) → i < S.input.states → o < S.output.states → D i o ≡ false → X i o ≡ W i o)
        → ((i o : ℕ) → D i o ≡ true → X i o ≡ region S i o) → Settled S r L X
    settled_add D L X C l v g = record {
      done = λ i o a b n. l i o a b ∙ or_left (D i o) (Z.done i o a b n);
      whole = λ i o j p a b c d h t. l j p c d ∙ whole i o j p a b c d t (or_cases (K i o) (D i o) (sym (l i o a b) ∙ h));
      within = λ i o a b h. l i o a b ∙ within i o a b h (decide (D i o));
      right = λ i o a b h. right i o a b (or_cases (K i o) (D i o) (sym (l i o a b) ∙ h)) (decide (D i o));
    }
      where
        whole : (i o j p : ℕ) → i < S.input.states → o < S.output.states → j < S.input.states → p < S.output.states
            → joined_at S i o j p ≡ true → (K i o ≡ true) ⊎ (D i o ≡ true) → (K j p || D j p) ≡ true
        whole i o j p a b c d t (inl k) = or_left (D j p) (Z.whole i o j p a b c d k t)
        whole i o j p a b c d t (inr k) = or_right (K j p) (C.exact i o j p k c d ∙ t)

        within : (i o : ℕ) → i < S.input.states → o < S.output.states → X i o ≡ true → (D i o ≡ true) ⊎ (D i o ≡ false) → (K i o || D i o) ≡ true
        within i o a b h (inl d) = or_right (K i o) d
        within i o a b h (inr d) = or_left (D i o) (Z.within i o a b (sym (v i o a b d) ∙ h))

        right : (i o : ℕ) → i < S.input.states → o < S.output.states → (K i o ≡ true) ⊎ (D i o ≡ true) → (D i o ≡ true) ⊎ (D i o ≡ false)
            → X i o ≡ region S i o
        right i o a b k (inl d) = g i o d
        right i o a b (inl k) (inr d) = v i o a b d ∙ Z.right i o a b k
        right i o a b (inr k) (inr d) = clash k d

    pub settled_next : ((i o : ℕ) → i < S.input.states → o < S.output.states → rank_at S i o ≡ r → K i o ≡ true) → Settled S (suc r) K W
    settled_next f = record {
      done = λ i o a b l. elim (below_suc (rank_at S i o) r l) [ inl e ↦ f i o a b e | inr n ↦ Z.done i o a b n ];
      whole = Z.whole;
      within = Z.within;
      right = Z.right;
    }

    pub settled_end : S.input.states * S.output.states < r → (i o : ℕ) → i < S.input.states → o < S.output.states → W i o ≡ region S i o
    settled_end l i o a b = Z.right i o a b (Z.done i o a b (omega (arith, l, rank_at_le S i o)))
