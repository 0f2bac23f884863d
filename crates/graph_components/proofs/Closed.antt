-- Where the rows are the closure's, the sets are the graph's own components.
--
--   closed_transitive   : the rows are transitive
--   component_closed    : the component of s
--   nontrivial_closed   : the states of nontrivial components
--   leaving_closed      : the states entered by a move out of a component
use Prim.Native.Nat.{ℕ, ◌≤◌, ◌<◌}
use mathlib.Core.Path.{◌≡◌, sym, ◌∙◌, ap, ap₂}
use mathlib.Core.Bool.{Bool, true, ◌&&◌, not}
use mathlib.Core.List.{List}
use native.Mathlib.Omega.{arith}
use lib.ListN.{get_or}
use Rattle.play.proofs.Moves.{moved_edge}
use Rattle.finite.proofs.Truth.{same_test}
use Rattle.finite.proofs.Bounded.{any_same}
use Rattle.bits.specs.Member.{has, pack, sets_meet}
use Rattle.bits.proofs.Membership.{has_pack_below, pack_ext, pack_lt, has_lt, has_pack_all}
use Rattle.bits.proofs.Compare.{meets_intro, meets_elim}
use Rattle.sets.specs.Words.{capacity, sets_in}
use Rattle.graphs.specs.Graph.{edge}
use Rattle.graphs.specs.Rows.{rel}
use Rattle.graphs.specs.Closure.{reaches}
use Rattle.graphs.specs.Component.{joined, nontrivial, leaves}
use Rattle.graphs.proofs.Graph.{edge_intro, edge_to, edge_moves}
use Rattle.graphs.proofs.Closure.{reaches_trans}
use Rattle.graphs.proofs.Component.{joined_back, joined_to, nontrivial_intro, nontrivial_move}
use Rattle.game.specs.declared.Graph.{Graph as Record}
use Rattle.game.proofs.Laws.{GraphFits}
use Rattle.play.specs.Play.{graph_of}
use Rattle.graph_components.specs.Component.{Transitive, together, nontrivial_at, enters}
use Rattle.graph_components.specs.Closes.{Closes}

module _ (h : Record) where
  moves_edge : (s t : ℕ) → edge (graph_of h) s t ≡ true → has (get_or (sets_in h.moves) s 0) t ≡ true
  unfolding graph_of
  moves_edge s t e = edge_moves (graph_of h) s t e

  edge_moved : (s t : ℕ) → s < h.states → t < h.states → has (get_or (sets_in h.moves) s 0) t ≡ true → edge (graph_of h) s t ≡ true
  unfolding graph_of
  edge_moved s t a b e = edge_intro (graph_of h) s t a b e

module _ (h : Record) (l : List ℕ) (C : Closes h l) where
  rel_closed : (s t : ℕ) → s < h.states → t < h.states → rel l s t ≡ reaches (graph_of h) s t
  unfolding rel
  rel_closed s t a b = ap (λ (x : ℕ). has x t) (C.row s a) ∙ has_pack_below h.states (reaches (graph_of h) s) t b

  pub closed_transitive : Transitive l h.states
  closed_transitive = record {
    through = λ s t u a b d e f.
        rel_closed s u a d ∙ reaches_trans (graph_of h) s t u (sym (rel_closed s t a b) ∙ e) (sym (rel_closed t u b d) ∙ f);
  }

  together_closed : (s t : ℕ) → s < h.states → t < h.states → together l s t ≡ joined (graph_of h) s t
  unfolding together joined
  together_closed s t a b = ap₂ ◌&&◌ (rel_closed s t a b) (rel_closed t s b a)

  pub component_closed : (s : ℕ) → s < h.states → pack h.states (together l s) ≡ pack h.states (joined (graph_of h) s)
  component_closed s a = pack_ext h.states (together l s) (joined (graph_of h) s) (λ t b. together_closed s t a b)

  nontrivial_at_closed : h.states ≤ capacity → (s : ℕ) → s < h.states → nontrivial_at (sets_in h.moves) l h.states s ≡ nontrivial (graph_of h) s
  unfolding nontrivial_at graph_of
  nontrivial_at_closed n s a =
      ap (λ (x : ℕ). sets_meet capacity (get_or (sets_in h.moves) s 0) x) (component_closed s a)
      ∙ same_test (sets_meet capacity (get_or (sets_in h.moves) s 0) comp) (nontrivial (graph_of h) s) there back
    where
      comp : ℕ
      comp = pack h.states (joined (graph_of h) s)

      there : sets_meet capacity (get_or (sets_in h.moves) s 0) comp ≡ true → nontrivial (graph_of h) s ≡ true
      there e =
          let v = meets_elim capacity (get_or (sets_in h.moves) s 0) comp e in
          let b = has_lt h.states comp v.0 (pack_lt h.states (joined (graph_of h) s)) v.3 in
          let j = sym (has_pack_below h.states (joined (graph_of h) s) v.0 b) ∙ v.3 in
          nontrivial_intro (graph_of h) s v.0 (edge_moved h s v.0 a b v.2) (joined_back (graph_of h) s v.0 j)

      back : nontrivial (graph_of h) s ≡ true → sets_meet capacity (get_or (sets_in h.moves) s 0) comp ≡ true
      back e =
          let v = nontrivial_move (graph_of h) s e in
          let b = below v.0 v.1 in
          meets_intro capacity (get_or (sets_in h.moves) s 0) comp v.0 (omega arith) (moves_edge h s v.0 v.1)
          (has_pack_below h.states (joined (graph_of h) s) v.0 b ∙ v.2)
        where
          below : (t : ℕ) → edge (graph_of h) s t ≡ true → t < h.states
          below t m = edge_to (graph_of h) s t m

  pub nontrivial_closed : h.states ≤ capacity → pack h.states (nontrivial_at (sets_in h.moves) l h.states) ≡ pack h.states (nontrivial (graph_of h))
  nontrivial_closed n = pack_ext h.states (nontrivial_at (sets_in h.moves) l h.states) (nontrivial (graph_of h)) (λ s b. nontrivial_at_closed n s b)

module _ (h : Record) (F : GraphFits h) where
  -- the exits of a component
  pub leaving_closed : (s r : ℕ)
      → ((t : ℕ) → has r t ≡ (enters (sets_in h.moves) (pack h.states (joined (graph_of h) s)) h.states t && not
      (has (pack h.states (joined (graph_of h) s)) t)))
      → (t : ℕ) → has r t ≡ leaves (graph_of h) s t
  unfolding leaves enters graph_of
  leaving_closed s r e t =
      e t
      ∙ ap₂ (λ (a b : Bool). a && not b)
      (any_same h.states (λ k. has comp k && has (get_or (sets_in h.moves) k 0) t) (λ k. joined (graph_of h) s k && edge (graph_of h) k t)
      (λ k b. ap₂ ◌&&◌ (has_pack_below h.states (joined (graph_of h) s) k b) (moved_edge h F k t b)))
      (has_pack_all h.states (joined (graph_of h) s) (λ u j. joined_to (graph_of h) s u j) t)
    where
      comp : ℕ
      comp = pack h.states (joined (graph_of h) s)
