-- Laws of moves inside a set.
--
--   kept_intro, kept_from, kept_to, kept_move : what such a move is
--   kept_pack      : inside the set of the states with p they are the edges between such states
--   members_pack   : a test of states is the set of the states that pass it
use Prim.Native.Nat.{ℕ, ◌<◌}
use mathlib.Core.Path.{◌≡◌, sym, ◌∙◌, fun_ext}
use mathlib.Core.Bool.{Bool, true, ◌&&◌}
use mathlib.Core.List.{List}
use lib.ListN.{get_or}
use Rattle.finite.proofs.Truth.{and_intro, and_left, and_right, same_test}
use Rattle.bits.specs.Member.{has, pack}
use Rattle.bits.proofs.Membership.{has_pack_below, has_pack_all, pack_below, pack_holds}
use Rattle.graphs.specs.Graph.{Graph, edge}
use Rattle.graphs.proofs.Graph.{edge_from, edge_to, edge_moves, edge_intro}
use Rattle.graph_ways.specs.Kept.{kept}

module _ (rows : List ℕ) (c s t : ℕ) where
  kept_intro : has c s ≡ true → has c t ≡ true → has (get_or rows s 0) t ≡ true → kept rows c s t ≡ true
  unfolding kept
  kept_intro a b m = and_intro a (and_intro b m)

  pub kept_from : kept rows c s t ≡ true → has c s ≡ true
  unfolding kept
  kept_from h = and_left (has c s) (has c t && has (get_or rows s 0) t) h

  kept_to : kept rows c s t ≡ true → has c t ≡ true
  unfolding kept
  kept_to h = and_left (has c t) (has (get_or rows s 0) t) (and_right (has c s) (has c t && has (get_or rows s 0) t) h)

  kept_move : kept rows c s t ≡ true → has (get_or rows s 0) t ≡ true
  unfolding kept
  kept_move h = and_right (has c t) (has (get_or rows s 0) t) (and_right (has c s) (has c t && has (get_or rows s 0) t) h)

pub members_pack : (n : ℕ) (q : ℕ → Bool) → ((k : ℕ) → q k ≡ true → k < n) → has (pack n q) ≡ q
members_pack n q below = fun_ext (has_pack_all n q below)

-- rows that hold the moves of a graph
module _ (G : Graph) (rows : List ℕ)
    (same : (s t : ℕ) → s < G.states → t < G.states → G.moves s t ≡ has (get_or rows s 0) t) where
  to_edge : (p : ℕ → Bool) (s t : ℕ) → kept rows (pack G.states p) s t ≡ true → edge G s t ≡ true
  to_edge p s t h =
      let c = pack G.states p in
      let a = pack_below G.states p s (kept_from rows c s t h) in
      let b = pack_below G.states p t (kept_to rows c s t h) in
      edge_intro G s t a b (same s t a b ∙ kept_move rows c s t h)

  of_edge : (p : ℕ → Bool) (s t : ℕ) → edge G s t ≡ true → p s ≡ true → p t ≡ true → kept rows (pack G.states p) s t ≡ true
  of_edge p s t h u v =
      let a = edge_from G s t h in
      let b = edge_to G s t h in
      kept_intro rows (pack G.states p) s t
      (has_pack_below G.states p s a ∙ u)
      (has_pack_below G.states p t b ∙ v)
      (sym (same s t a b) ∙ edge_moves G s t h)

  pub kept_pack : (p : ℕ → Bool) → kept rows (pack G.states p) ≡ (λ s t. edge G s t && (p s && p t))
  kept_pack p = fun_ext (λ s. fun_ext (λ t. same_test (kept rows c s t) (edge G s t && (p s && p t)) (to s t) (back s t)))
    where
      c : ℕ
      c = pack G.states p

      to : (s t : ℕ) → kept rows (pack G.states p) s t ≡ true → (edge G s t && (p s && p t)) ≡ true
      to s t h =
          and_intro (to_edge p s t h)
          (and_intro
          (pack_holds G.states p s (kept_from rows (pack G.states p) s t h))
          (pack_holds G.states p t (kept_to rows (pack G.states p) s t h)))

      back : (s t : ℕ) → (edge G s t && (p s && p t)) ≡ true → kept rows (pack G.states p) s t ≡ true
      back s t h =
          let both = and_right (edge G s t) (p s && p t) h in
          of_edge p s t (and_left (edge G s t) (p s && p t) h) (and_left (p s) (p t) both) (and_right (p s) (p t) both)
