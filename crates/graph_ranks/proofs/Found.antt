-- What the search finds is the component.
--
--   narrow              : the moves of an accepted graph
--   component_found     : what is found inside a set that has the whole component is the component, as a set
use Prim.Native.Nat.{ℕ, ◌<◌}
use mathlib.Core.Path.{◌≡◌, refl, sym, ◌∙◌, ap}
use mathlib.Core.Bool.{Bool, true}
use native.Mathlib.Omega.{arith}
use native.Mathlib.Decide.{dec_lt}
use lib.Dec.{ltb}
use lib.ListN.{get_or}
use borrow.Author.Tests.{lt-ltb}
use Rattle.play.proofs.Moves.{moved_edge}
use Rattle.finite.proofs.Truth.{clash, same_test, and_intro, and_right}
use Rattle.bits.specs.Member.{has, pack}
use Rattle.bits.proofs.Membership.{has_zero_lem, has_pack, ext}
use Rattle.sets.specs.Words.{sets_in}
use Rattle.graphs.specs.Graph.{edge}
use Rattle.graphs.specs.Closure.{reaches}
use Rattle.graphs.specs.Component.{joined}
use Rattle.graphs.specs.Walk.{stay, step}
use Rattle.graphs.proofs.Graph.{edge_from, edge_to}
use Rattle.graphs.proofs.Closure.{Path, reaches_self, reaches_edge, reaches_trans, reaches_to, reaches_path, path_reaches}
use Rattle.graphs.proofs.Component.{joined_intro, joined_there, joined_back, joined_to}
use Rattle.game.specs.declared.Graph.{Graph as Record}
use Rattle.game.specs.Fits.{GraphFits}
use Rattle.play.specs.Play.{graph_of}
use Rattle.graph_ranks.specs.Search.{Narrow, Onward, Backward, Component}

module _ (h : Record) (F : GraphFits h) where
  pub narrow : Narrow (sets_in h.moves)
  narrow t u b m =
      elim (dec_lt t h.states) [
        | yes l ↦ omega (arith, F.row_below t u l m, F.most)
        | no l ↦ clash m (ap (λ (x : ℕ). has x u) (F.row_past t (omega arith) b) ∙ has_zero_lem u)
      ]

  move_of : (t u : ℕ) → edge (graph_of h) t u ≡ true → has (get_or (sets_in h.moves) t 0) u ≡ true
  unfolding graph_of
  move_of t u e = moved_edge h F t u (edge_from (graph_of h) t u e) ∙ e

  module _ (inside s r : ℕ) (b : s < h.states) (below : (t : ℕ) → has inside t ≡ true → t < h.states)
      (whole : (t : ℕ) → joined (graph_of h) s t ≡ true → has inside t ≡ true) (C : Component (sets_in h.moves) inside s r) where
    reached : (t : ℕ) → has r t ≡ true → reaches (graph_of h) s t ≡ true
    unfolding graph_of
    reached =
        C.ahead (reaches (graph_of h) s) (reaches_self (graph_of h) s b)
        (λ t u p m i. reaches_trans (graph_of h) s t u p
        (reaches_edge (graph_of h) t u (sym (moved_edge h F t u (reaches_to (graph_of h) s t p)) ∙ m)))

    reaching : (t : ℕ) → has r t ≡ true → reaches (graph_of h) t s ≡ true
    unfolding graph_of
    reaching =
        C.behind (λ t. reaches (graph_of h) t s) (reaches_self (graph_of h) s b)
        (λ t u i m p. reaches_trans (graph_of h) t u s (reaches_edge (graph_of h) t u (sym (moved_edge h F t u (below t i)) ∙ m)) p)

    -- a path from s to a state that reaches s stays in the component, hence inside
    module _ (p : ℕ → Bool) where
      forth : Onward (sets_in h.moves) inside p → (t u : ℕ) → Path (graph_of h) t u → reaches (graph_of h) s t ≡ true
          → reaches (graph_of h) u s ≡ true → p t ≡ true → p u ≡ true
      forth m t u stay a c k = k
      forth m t u (step {b = v} e w) a c k =
          let d = reaches_trans (graph_of h) s t v a (reaches_edge (graph_of h) t v e) in
          let f = reaches_trans (graph_of h) v u s (path_reaches (graph_of h) v u (edge_to (graph_of h) t v e) w) c in
          forth m v u w d c (m t v k (move_of t v e) (whole v (joined_intro (graph_of h) s v d f)))

      back : Backward (sets_in h.moves) inside p → (t u : ℕ) → u ≡ s → Path (graph_of h) t u → reaches (graph_of h) s t ≡ true
          → p s ≡ true → p t ≡ true
      back m t u q stay a k = rw q k
      back m t u q (step {b = v} e w) a k =
          let d = reaches_trans (graph_of h) s t v a (reaches_edge (graph_of h) t v e) in
          let f : reaches (graph_of h) t s ≡ true = rw q at (path_reaches (graph_of h) t u (edge_from (graph_of h) t v e) (step e w)) in
          m t v (whole t (joined_intro (graph_of h) s t a f)) (move_of t v e) (back m v u q w d k)

    member : (t : ℕ) → has r t ≡ true → joined (graph_of h) s t ≡ true
    member t m = joined_intro (graph_of h) s t (reached t m) (reaching t m)

    joined_member : (t : ℕ) → joined (graph_of h) s t ≡ true → has r t ≡ true
    unfolding graph_of
    joined_member t j =
        let a = joined_there (graph_of h) s t j in
        let c = joined_back (graph_of h) s t j in
        C.whole t (λ p o m. forth p m s t (reaches_path (graph_of h) s t a) (reaches_self (graph_of h) s b) c o)
        (λ p o m. back p m t s refl (reaches_path (graph_of h) t s c) a o)

    pub component_found : r ≡ pack h.states (joined (graph_of h) s)
    unfolding graph_of
    component_found = ext r (pack h.states (joined (graph_of h) s)) at
      where
        at : (t : ℕ) → has r t ≡ has (pack h.states (joined (graph_of h) s)) t
        at t =
            same_test (has r t) (has (pack h.states (joined (graph_of h) s)) t)
            (λ m. has_pack h.states (joined (graph_of h) s) t
            ∙ and_intro (lt-ltb t h.states (joined_to (graph_of h) s t (member t m))) (member t m))
            (λ m. joined_member t (and_right (ltb t h.states) (joined (graph_of h) s t) (sym (has_pack h.states (joined (graph_of h) s) t) ∙ m)))
