-- Laws of components. Within a component all of these agree.
use Prim.Native.Nat.{ℕ, ◌≤◌, ◌<◌}
use mathlib.Core.Path.{◌≡◌, refl, sym, ◌∙◌, ap}
use mathlib.Core.Bool.{Bool, true, false, ◌&&◌, not}
use native.Mathlib.Omega.{arith}
use Rattle.finite.specs.Bounded.{any}
use Rattle.finite.proofs.Truth.{clash, false_of, and_intro, and_left, and_right, not_true, same_test}
use Rattle.finite.proofs.Bounded.{
  any_intro,
  any_elim,
  any_same,
  least_below,
  least_member,
  least_same,
  least_at_most,
  count_le,
  count_less,
  count_mono,
  count_pos,
}
use Rattle.graphs.specs.Graph.{Graph, edge}
use Rattle.graphs.specs.Closure.{reaches}
use Rattle.graphs.specs.Component.{joined, number, nontrivial, leaves, meets_at, rank}
use Rattle.graphs.proofs.Graph.{edge_to}
use Rattle.graphs.specs.Walk.{stay, step}
use Rattle.graphs.proofs.Closure.{Path, reaches_path, path_reaches, reaches_from, reaches_to, reaches_self, reaches_edge, reaches_trans}

module _ (G : Graph) where
  pub joined_intro : (s t : ℕ) → reaches G s t ≡ true → reaches G t s ≡ true → joined G s t ≡ true
  unfolding joined
  joined_intro s t a b = and_intro a b

  pub joined_there : (s t : ℕ) → joined G s t ≡ true → reaches G s t ≡ true
  unfolding joined
  joined_there s t h = and_left (reaches G s t) (reaches G t s) h

  pub joined_back : (s t : ℕ) → joined G s t ≡ true → reaches G t s ≡ true
  unfolding joined
  joined_back s t h = and_right (reaches G s t) (reaches G t s) h

  pub joined_self : (s : ℕ) → s < G.states → joined G s s ≡ true
  joined_self s a = joined_intro s s (reaches_self G s a) (reaches_self G s a)

  pub joined_sym : (s t : ℕ) → joined G s t ≡ true → joined G t s ≡ true
  joined_sym s t h = joined_intro t s (joined_back s t h) (joined_there s t h)

  pub joined_trans : (s t u : ℕ) → joined G s t ≡ true → joined G t u ≡ true → joined G s u ≡ true
  joined_trans s t u a b =
      joined_intro s u (reaches_trans G s t u (joined_there s t a) (joined_there t u b))
      (reaches_trans G u t s (joined_back t u b) (joined_back s t a))

  pub joined_from : (s t : ℕ) → joined G s t ≡ true → s < G.states
  joined_from s t h = reaches_from G s t (joined_there s t h)

  pub joined_to : (s t : ℕ) → joined G s t ≡ true → t < G.states
  joined_to s t h = reaches_to G s t (joined_there s t h)

  -- two states of one component have the same component
  pub joined_same : (s s' t : ℕ) → joined G s s' ≡ true → joined G s t ≡ joined G s' t
  joined_same s s' t h =
      same_test (joined G s t) (joined G s' t) (λ a. joined_trans s' s t (joined_sym s s' h) a)
      (λ a. joined_trans s s' t h a)

  pub number_same : (s s' : ℕ) → joined G s s' ≡ true → number G s ≡ number G s'
  unfolding number
  number_same s s' h = least_same G.states (joined G s) (joined G s') (λ t b. joined_same s s' t h)

  pub number_joined : (s : ℕ) → s < G.states → joined G s (number G s) ≡ true
  unfolding number
  number_joined s a = least_member G.states (joined G s) (least_below G.states (joined G s) s a (joined_self s a))

  pub number_below : (s : ℕ) → s < G.states → number G s < G.states
  number_below s a = joined_to s (number G s) (number_joined s a)

  pub number_least : (s t : ℕ) → joined G s t ≡ true → number G s ≤ t
  unfolding number
  number_least s t h = least_at_most G.states (joined G s) t h

  pub nontrivial_intro : (s t : ℕ) → edge G s t ≡ true → reaches G t s ≡ true → nontrivial G s ≡ true
  unfolding nontrivial
  nontrivial_intro s t e r = any_intro G.states (λ k. edge G s k && reaches G k s) t (edge_to G s t e) (and_intro e r)

  -- a nontrivial component has a move inside it from each of its states
  pub nontrivial_move : (s : ℕ) → nontrivial G s ≡ true → (t : ℕ) × (edge G s t ≡ true) × (joined G s t ≡ true)
  unfolding nontrivial
  nontrivial_move s h =
      let w = any_elim G.states (λ k. edge G s k && reaches G k s) h in
      let e = and_left (edge G s w.0) (reaches G w.0 s) w.2 in
      let r = and_right (edge G s w.0) (reaches G w.0 s) w.2 in
      (w.0, e, joined_intro s w.0 (reaches_edge G s w.0 e) r)

  -- where s reaches another state of its component by a move, that move comes back
  pub nontrivial_joined : (s t u : ℕ) → joined G s u ≡ true → edge G u t ≡ true → joined G s t ≡ true → nontrivial G u ≡ true
  nontrivial_joined s t u a e b =
      nontrivial_intro u t e (reaches_trans G t s u (joined_back s t b) (joined_there s u a))

  pub leaves_intro : (s k t : ℕ) → joined G s k ≡ true → edge G k t ≡ true → joined G s t ≡ false → leaves G s t ≡ true
  unfolding leaves
  leaves_intro s k t a e h =
      and_intro (any_intro G.states (λ u. joined G s u && edge G u t) k (joined_to s k a) (and_intro a e)) (rw h refl)

  pub leaves_elim : (s t : ℕ) → leaves G s t ≡ true → (k : ℕ) × (joined G s k ≡ true) × (edge G k t ≡ true)
  unfolding leaves
  leaves_elim s t h =
      let w = any_elim G.states (λ u. joined G s u && edge G u t)
      (and_left (any G.states (λ u. joined G s u && edge G u t)) (not (joined G s t)) h) in
      (w.0, and_left (joined G s w.0) (edge G w.0 t) w.2, and_right (joined G s w.0) (edge G w.0 t) w.2)

  pub leaves_apart : (s t : ℕ) → leaves G s t ≡ true → joined G s t ≡ false
  unfolding leaves
  leaves_apart s t h =
      not_true (joined G s t) (and_right (any G.states (λ u. joined G s u && edge G u t)) (not (joined G s t)) h)

  pub leaves_same : (s s' t : ℕ) → joined G s s' ≡ true → leaves G s t ≡ leaves G s' t
  leaves_same s s' t h = same_test (leaves G s t) (leaves G s' t) (λ a. carry s s' h a) (λ a. carry s' s (joined_sym s s' h) a)
    where
      carry : (a b : ℕ) → joined G a b ≡ true → leaves G a t ≡ true → leaves G b t ≡ true
      carry a b j l =
          let w = leaves_elim a t l in
          leaves_intro b w.0 t (joined_trans b a w.0 (joined_sym a b j) w.1) w.2
          (sym (joined_same a b t j) ∙ leaves_apart a t l)

  pub meets_at_intro : (s : ℕ) (p : ℕ → Bool) (t : ℕ) → p t ≡ true → joined G s t ≡ true → meets_at G s p ≡ true
  unfolding meets_at
  meets_at_intro s p t a b = any_intro G.states (λ u. p u && joined G s u) t (joined_to s t b) (and_intro a b)

  pub meets_at_elim : (s : ℕ) (p : ℕ → Bool) → meets_at G s p ≡ true → (t : ℕ) × (p t ≡ true) × (joined G s t ≡ true)
  unfolding meets_at
  meets_at_elim s p h =
      let w = any_elim G.states (λ u. p u && joined G s u) h in
      (w.0, and_left (p w.0) (joined G s w.0) w.2, and_right (p w.0) (joined G s w.0) w.2)

  pub meets_at_same : (s s' : ℕ) (p : ℕ → Bool) → joined G s s' ≡ true → meets_at G s p ≡ meets_at G s' p
  unfolding meets_at
  meets_at_same s s' p h =
      any_same G.states (λ u. p u && joined G s u) (λ u. p u && joined G s' u) (λ u b. ap (λ (x : Bool). p u && x) (joined_same s s' u h))

  -- rank

  pub rank_le : (s : ℕ) → rank G s ≤ G.states
  unfolding rank
  rank_le s = count_le G.states (reaches G s)

  pub rank_pos : (s : ℕ) → s < G.states → 0 < rank G s
  unfolding rank
  rank_pos s a = count_pos G.states (reaches G s) s a (reaches_self G s a)

  rank_mono : (s t : ℕ) → reaches G s t ≡ true → rank G t ≤ rank G s
  unfolding rank
  rank_mono s t h = count_mono G.states (reaches G t) (reaches G s) (λ u b a. reaches_trans G s t u h a)

  -- what s reaches and what does not reach s has fewer states ahead
  pub rank_falls : (s t : ℕ) → reaches G s t ≡ true → reaches G t s ≡ false → rank G t < rank G s
  unfolding rank
  rank_falls s t h n =
      count_less G.states (reaches G t) (reaches G s) (λ u b a. reaches_trans G s t u h a) s (reaches_from G s t h) n
      (reaches_self G s (reaches_from G s t h))

  pub rank_same : (s t : ℕ) → joined G s t ≡ true → rank G s ≡ rank G t
  rank_same s t h = omega (arith, rank_mono s t (joined_there s t h), rank_mono t s (joined_back s t h))

  -- along every exit, and along every move from a trivial component
  pub rank_leaves : (s t : ℕ) → leaves G s t ≡ true → rank G t < rank G s
  rank_leaves s t l =
      let w = leaves_elim s t l in
      let there = reaches_trans G s w.0 t (joined_there s w.0 w.1) (reaches_edge G w.0 t w.2) in
      rank_falls s t there (false_of (reaches G t s) (λ b. clash (joined_intro s t there b) (leaves_apart s t l)))

  pub rank_trivial : (s t : ℕ) → nontrivial G s ≡ false → edge G s t ≡ true → rank G t < rank G s
  rank_trivial s t h e =
      rank_falls s t (reaches_edge G s t e) (false_of (reaches G t s) (λ b. clash (nontrivial_intro s t e b) h))

  -- the first move of a way back
  nontrivial_back : (a b : ℕ) → Path G b a → reaches G a b ≡ true → nontrivial G a ≡ true → nontrivial G b ≡ true
  nontrivial_back a b stay r n = n
  nontrivial_back a b (step {b = t} e w) r n = nontrivial_intro b t e (reaches_trans G t a b (path_reaches G t a (edge_to G b t e) w) r)

  pub nontrivial_same : (s s' : ℕ) → joined G s s' ≡ true → nontrivial G s ≡ nontrivial G s'
  nontrivial_same s s' h = same_test (nontrivial G s) (nontrivial G s') (carry s s' h) (carry s' s (joined_sym s s' h))
    where
      carry : (a b : ℕ) → joined G a b ≡ true → nontrivial G a ≡ true → nontrivial G b ≡ true
      carry a b j n = nontrivial_back a b (reaches_path G b a (joined_back a b j)) (joined_there a b j) n
