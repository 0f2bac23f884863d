-- Laws of edges, and walks along them.
use Prim.Native.Nat.{ℕ, ◌<◌}
use mathlib.Core.Path.{◌≡◌}
use mathlib.Core.Bool.{true, false, ◌&&◌}
use lib.Dec.{ltb}
use borrow.Author.Tests.{ltb-true, lt-ltb}
use Rattle.finite.specs.Bounded.{any}
use Rattle.finite.proofs.Truth.{clash, false_of, and_intro, and_left, and_right, not_true, not_false}
use Rattle.finite.proofs.Bounded.{any_intro, any_elim}
use Rattle.graphs.specs.Graph.{Graph, edge, begins, stuck}

module _ (G : Graph) where
  pub edge_from : (s t : ℕ) → edge G s t ≡ true → s < G.states
  unfolding edge
  edge_from s t h = ltb-true s G.states (and_left (ltb s G.states) (ltb t G.states && G.moves s t) h)

  pub edge_to : (s t : ℕ) → edge G s t ≡ true → t < G.states
  unfolding edge
  edge_to s t h =
      ltb-true t G.states
      (and_left (ltb t G.states) (G.moves s t) (and_right (ltb s G.states) (ltb t G.states && G.moves s t) h))

  pub edge_moves : (s t : ℕ) → edge G s t ≡ true → G.moves s t ≡ true
  unfolding edge
  edge_moves s t h =
      and_right (ltb t G.states) (G.moves s t) (and_right (ltb s G.states) (ltb t G.states && G.moves s t) h)

  pub edge_intro : (s t : ℕ) → s < G.states → t < G.states → G.moves s t ≡ true → edge G s t ≡ true
  unfolding edge
  edge_intro s t a b h = and_intro (lt-ltb s G.states a) (and_intro (lt-ltb t G.states b) h)

  pub begins_below : (s : ℕ) → begins G s ≡ true → s < G.states
  unfolding begins
  begins_below s h = ltb-true s G.states (and_left (ltb s G.states) (G.initial s) h)

  pub begins_initial : (s : ℕ) → begins G s ≡ true → G.initial s ≡ true
  unfolding begins
  begins_initial s h = and_right (ltb s G.states) (G.initial s) h

  pub begins_intro : (s : ℕ) → s < G.states → G.initial s ≡ true → begins G s ≡ true
  unfolding begins
  begins_intro s a h = and_intro (lt-ltb s G.states a) h

  pub stuck_none : (s t : ℕ) → stuck G s ≡ true → edge G s t ≡ false
  unfolding stuck
  stuck_none s t h =
      false_of (edge G s t)
      (λ e. clash (any_intro G.states (edge G s) t (edge_to s t e) e) (not_true (any G.states (edge G s)) h))

  pub stuck_not : (s t : ℕ) → edge G s t ≡ true → stuck G s ≡ false
  stuck_not s t e = false_of (stuck G s) (λ h. clash e (stuck_none s t h))

  pub stuck_moves : (s : ℕ) → stuck G s ≡ false → (t : ℕ) × (edge G s t ≡ true)
  unfolding stuck
  stuck_moves s h = let v = any_elim G.states (edge G s) (not_false (any G.states (edge G s)) h) in (v.0, v.2)
