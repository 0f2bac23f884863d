-- An accepting component: W shrinks to what forces it, and then holds only what is won there (the lecture's safety game).
--
--   lost_out    : a member that does not force W is not won, W holding all won members: so W may shrink by it
--   safe        : where every member in W forces W, those members are won
use Prim.Native.Nat.{ℕ}
use mathlib.Core.Path.{◌≡◌, sym, ◌∙◌}
use mathlib.Core.Bool.{Bool, true, false}
use mathlib.Core.Logic.{◌⊎◌, inl, inr}
use Rattle.finite.proofs.Truth.{decide, clash, true_of, false_of}
use Rattle.graphs.specs.Walk.{stay, step}
use Rattle.graphs.specs.Graph.{edge}
use Rattle.graphs.specs.Closure.{reaches}
use Rattle.graphs.specs.Component.{joined, leaves}
use Rattle.graphs.proofs.Graph.{edge_to}
use Rattle.graphs.proofs.Closure.{Path, path_reaches, reaches_path, reaches_self, reaches_edge, reaches_trans}
use Rattle.graphs.proofs.Component.{joined_there, joined_back, leaves_elim, leaves_apart}
use Rattle.arena.specs.Arena.{Separated}
use Rattle.theory.specs.Region.{accepting, replies, region}
use Rattle.theory.proofs.Region.{answers_intro, answers_elim, replies_intro, replies_elim, safe_intro, home_for_intro, settles_intro, region_settles}
use Rattle.theory.proofs.Delay.{delay, output_delay}
use Rattle.joint.specs.Joint.{nontrivial_at}
use Rattle.joint.specs.Solver.{Component, Ahead, Above, Safe}
use Rattle.joint.proofs.Forces.{region_forces}
use Rattle.joint.proofs.Order.{nontrivial_at_input, nontrivial_at_output}
use Rattle.joint.proofs.Accepting.{member_input, member_output}

module _ (S : Separated) (D W : ℕ → ℕ → Bool) (C : Component S D) (A : Ahead S D W) where
  pub lost_out : Above S D W → (i o : ℕ) → D i o ≡ true → replies S W i o ≡ false → region S i o ≡ false
  lost_out B i o here h = false_of (region S i o) (λ r. clash (forces r) h)
    where
      held : (j p : ℕ) → edge S.input i j ≡ true → edge S.output o p ≡ true → region S j p ≡ true
          → (D j p ≡ true) ⊎ (D j p ≡ false) → W j p ≡ true
      held j p e f r (inl d) = B.held j p d r
      held j p e f r (inr d) = A.right i o j p here e f d ∙ r

      forces : region S i o ≡ true → replies S W i o ≡ true
      forces r =
          replies_intro S W i o
          (λ j e. let v = answers_elim S (region S) j o
          (replies_elim S (region S) i o j (sym (region_forces S i o (C.inputs i o here) (C.outputs i o here)) ∙ r) e) in
          answers_intro S W j o v.0 v.1 (held j v.0 e v.1 v.2 (decide (D j v.0))))

  module _ (F : Safe S D W) (N : (i o : ℕ) → D i o ≡ true → nontrivial_at S i o ≡ true) (M : (i o : ℕ) → D i o ≡ true → accepting S i o ≡ true) where
    module _ (i o : ℕ) (here : D i o ≡ true) (held : W i o ≡ true) (lost : region S i o ≡ false) where
      -- No reply of W leaves the component while the input can come back: (i, o) would be won by the right to wait.
      follow : (a k p : ℕ) → Path S.input a k → D a p ≡ true → W a p ≡ true → reaches S.input k i ≡ true → (q : ℕ) × (D k q ≡ true) × (W k q ≡ true)
      follow a k p stay d w r = (p, d, w)
      follow a k p (step {b = b} e u) d w r =
          let v = answers_elim S W b p (replies_elim S W a p b (F.ended a p d w) e) in
          go v.0 v.1 v.2 (decide (D b v.0)) (λ h. follow b k v.0 u h)
        where
          go : (q : ℕ) → edge S.output p q ≡ true → W b q ≡ true → (D b q ≡ true) ⊎ (D b q ≡ false)
              → (D b q ≡ true → W b q ≡ true → reaches S.input k i ≡ true → (q' : ℕ) × (D k q' ≡ true) × (W k q' ≡ true))
              → (q' : ℕ) × (D k q' ≡ true) × (W k q' ≡ true)
          go q f x (inl h) rec = rec h x r
          go q f x (inr h) rec =
              let back = reaches_trans S.input b k i (path_reaches S.input b k (edge_to S.input a b e) u) r in
              let across = joined_there S.output o p (member_output S D C i o a p here d) in
              let there = reaches_trans S.output o p q across (reaches_edge S.output p q f) in
              clash (delay S b i q o back there (sym (A.right a p b q d e f h) ∙ x)) lost

      -- So the replies at an exit are won, and the states of the output's component reach them.
      exits : (j e : ℕ) → leaves S.input i j ≡ true → joined S.output o e ≡ true → region S j e ≡ true
      exits j e l t =
          let v = leaves_elim S.input i j l in
          let u = follow i v.0 o (reaches_path S.input i v.0 (joined_there S.input i v.0 v.1)) here held
          (joined_back S.input i v.0 v.1) in
          let w = answers_elim S W j u.0 (replies_elim S W v.0 u.0 j (F.ended v.0 u.0 u.1 u.2) v.2) in
          let out : D j w.0 ≡ false = false_of (D j w.0) (λ d. clash (member_input S D C i o j w.0 here d) (leaves_apart S.input i j l)) in
          output_delay S j e w.0
          (reaches_trans S.output e o w.0 (joined_back S.output o e t)
          (reaches_trans S.output o u.0 w.0 (joined_there S.output o u.0 (member_output S D C i o v.0 u.0 here u.1))
          (reaches_edge S.output u.0 w.0 w.1)))
          (sym (A.right v.0 u.0 j w.0 u.1 v.2 w.1 out) ∙ w.2)

      at_home_lem : region S i o ≡ true
      at_home_lem =
          let n = N i o here in
          let b = C.outputs i o here in
          region_settles S i o (C.inputs i o here) b (nontrivial_at_input S i o b n)
          ∙ settles_intro S (region S) i o o (reaches_self S.output o b)
          (home_for_intro S (region S) i o (nontrivial_at_output S i o b n) (M i o here) (safe_intro S (region S) i o exits))

    pub safe : (i o : ℕ) → D i o ≡ true → W i o ≡ true → region S i o ≡ true
    safe i o here held = true_of (region S i o) (λ lost. clash (at_home_lem i o here held lost) lost)
