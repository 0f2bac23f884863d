-- The joined graph and its two graphs.
--
--   reaches_left, reaches_right       : what is reached jointly is reached by each
--   joined_left, joined_right         : what is joined is joined in each
--   joint_step                        : a joint move inside a component of each graph lies inside a component of the joined graph
--   nontrivial_both, -left, -right    : a component of the joined graph has a move where its two components do, and only there
--   spread_left, spread_right         : a joined component with a move passes every state of its two components, whatever their periods
use Prim.Native.Nat.{ℕ, ◌/◌, ◌%◌, ◌<◌}
use mathlib.Core.Path.{◌≡◌, refl, sym, ◌∙◌}
use mathlib.Core.Bool.{true}
use lib.Arith.{digits_div, digits_mod}
use Rattle.finite.proofs.Truth.{and_left, and_right}
use Rattle.graphs.specs.Walk.{stay, step}
use Rattle.graphs.specs.Graph.{Graph, edge}
use Rattle.graphs.specs.Closure.{reaches}
use Rattle.graphs.specs.Component.{joined, nontrivial}
use Rattle.graphs.proofs.Walk.{image}
use Rattle.graphs.proofs.Graph.{edge_to, edge_moves}
use Rattle.graphs.proofs.Closure.{Path, reaches_path, path_reaches, reaches_from, reaches_edge, reaches_trans}
use Rattle.graphs.proofs.Component.{joined_intro, joined_self, joined_there, joined_back, joined_trans, nontrivial_intro, nontrivial_move, nontrivial_same}
use Rattle.joint.specs.Joint.{at, joint}
use Rattle.joint.proofs.Laps.{ap2, at_below, edge_joint, joint_back}

module _ (G H : Graph) where
  pub at_left : (s t : ℕ) → t < H.states → at H s t / H.states ≡ s
  unfolding at
  at_left s t b = digits_div s b

  pub at_right : (s t : ℕ) → t < H.states → at H s t % H.states ≡ t
  unfolding at
  at_right s t b = digits_mod s b

  pub move_left : (c d : ℕ) → edge (joint G H) c d ≡ true → edge G (c / H.states) (d / H.states) ≡ true
  unfolding joint
  move_left c d e =
      and_left (edge G (c / H.states) (d / H.states)) (edge H (c % H.states) (d % H.states)) (edge_moves (joint G H) c d e)

  pub move_right : (c d : ℕ) → edge (joint G H) c d ≡ true → edge H (c % H.states) (d % H.states) ≡ true
  unfolding joint
  move_right c d e =
      and_right (edge G (c / H.states) (d / H.states)) (edge H (c % H.states) (d % H.states)) (edge_moves (joint G H) c d e)

  path_left : {c d : ℕ} → Path (joint G H) c d → Path G (c / H.states) (d / H.states)
  path_left w = image (λ (a b : ℕ). edge G a b ≡ true) (λ (c : ℕ). c / H.states) move_left w

  path_right : {c d : ℕ} → Path (joint G H) c d → Path H (c % H.states) (d % H.states)
  path_right w = image (λ (a b : ℕ). edge H a b ≡ true) (λ (c : ℕ). c % H.states) move_right w

  reaches_left : (s t s' t' : ℕ) → s < G.states → t < H.states → t' < H.states → reaches (joint G H) (at H s t) (at H s' t') ≡ true
      → reaches G s s' ≡ true
  reaches_left s t s' t' a b b' r =
      ap2 (reaches G) (sym (at_left s t b)) (sym (at_left s' t' b'))
      ∙ path_reaches G (at H s t / H.states) (at H s' t' / H.states) (rw (at_left s t b) a) (path_left (reaches_path (joint G H) (at H s t) (at H s' t') r))

  reaches_right : (s t s' t' : ℕ) → t < H.states → t' < H.states → reaches (joint G H) (at H s t) (at H s' t') ≡ true → reaches H t t' ≡ true
  reaches_right s t s' t' b b' r =
      ap2 (reaches H) (sym (at_right s t b)) (sym (at_right s' t' b'))
      ∙ path_reaches H (at H s t % H.states) (at H s' t' % H.states) (rw (at_right s t b) b) (path_right (reaches_path (joint G H) (at H s t) (at H s' t') r))

  pub joined_left : (s t s' t' : ℕ) → s < G.states → t < H.states → s' < G.states → t' < H.states
      → joined (joint G H) (at H s t) (at H s' t') ≡ true → joined G s s' ≡ true
  joined_left s t s' t' a b a' b' h =
      joined_intro G s s' (reaches_left s t s' t' a b b' (joined_there (joint G H) (at H s t) (at H s' t') h))
      (reaches_left s' t' s t a' b' b (joined_back (joint G H) (at H s t) (at H s' t') h))

  pub joined_right : (s t s' t' : ℕ) → t < H.states → t' < H.states → joined (joint G H) (at H s t) (at H s' t') ≡ true → joined H t t' ≡ true
  joined_right s t s' t' b b' h =
      joined_intro H t t' (reaches_right s t s' t' b b' (joined_there (joint G H) (at H s t) (at H s' t') h))
      (reaches_right s' t' s t b' b (joined_back (joint G H) (at H s t) (at H s' t') h))

  pub joint_step : (s s' t t' : ℕ) → edge G s s' ≡ true → reaches G s' s ≡ true → edge H t t' ≡ true → reaches H t' t ≡ true
      → joined (joint G H) (at H s t) (at H s' t') ≡ true
  joint_step s s' t t' e r f q =
      joined_intro (joint G H) (at H s t) (at H s' t')
      (reaches_edge (joint G H) (at H s t) (at H s' t') (edge_joint G H s s' t t' e f)) (joint_back G H s s' t t' e r f q)

  pub nontrivial_both : (s t : ℕ) → nontrivial G s ≡ true → nontrivial H t ≡ true → nontrivial (joint G H) (at H s t) ≡ true
  nontrivial_both s t m n =
      let v = nontrivial_move G s m in
      let w = nontrivial_move H t n in
      nontrivial_intro (joint G H) (at H s t) (at H v.0 w.0) (edge_joint G H s v.0 t w.0 v.1 w.1)
      (joint_back G H s v.0 t w.0 v.1 (joined_back G s v.0 v.2) w.1 (joined_back H t w.0 w.2))

  pub nontrivial_left : (s t : ℕ) → t < H.states → nontrivial (joint G H) (at H s t) ≡ true → nontrivial G s ≡ true
  nontrivial_left s t b n =
      let v = nontrivial_move (joint G H) (at H s t) n in
      let e : edge G s (v.0 / H.states) ≡ true = ap2 (edge G) (sym (at_left s t b)) refl ∙ move_left (at H s t) v.0 v.1 in
      nontrivial_intro G s (v.0 / H.states) e
      (ap2 (reaches G) refl (sym (at_left s t b))
      ∙ path_reaches G (v.0 / H.states) (at H s t / H.states) (edge_to G s (v.0 / H.states) e)
      (path_left (reaches_path (joint G H) v.0 (at H s t) (joined_back (joint G H) (at H s t) v.0 v.2))))

  pub nontrivial_right : (s t : ℕ) → t < H.states → nontrivial (joint G H) (at H s t) ≡ true → nontrivial H t ≡ true
  nontrivial_right s t b n =
      let v = nontrivial_move (joint G H) (at H s t) n in
      let e : edge H t (v.0 % H.states) ≡ true = ap2 (edge H) (sym (at_right s t b)) refl ∙ move_right (at H s t) v.0 v.1 in
      nontrivial_intro H t (v.0 % H.states) e
      (ap2 (reaches H) refl (sym (at_right s t b))
      ∙ path_reaches H (v.0 % H.states) (at H s t % H.states) (edge_to H t (v.0 % H.states) e)
      (path_right (reaches_path (joint G H) v.0 (at H s t) (joined_back (joint G H) (at H s t) v.0 v.2))))

  -- each move of the path is answered inside the other's component
  along_left : (s s' t : ℕ) → s < G.states → t < H.states → Path G s s' → reaches G s' s ≡ true → nontrivial H t ≡ true
      → (t' : ℕ) × (t' < H.states) × (joined (joint G H) (at H s t) (at H s' t') ≡ true)
  along_left s s' t a b stay r n = (t, b, joined_self (joint G H) (at H s t) (at_below G H s t a b))
  along_left s s' t a b (step {b = u} e w) r n =
      let v = nontrivial_move H t n in
      let c = edge_to G s u e in
      let d = edge_to H t v.0 v.1 in
      let first = joint_step s u t v.0 e (reaches_trans G u s' s (path_reaches G u s' c w) r) v.1 (joined_back H t v.0 v.2) in
      let rest = along_left u s' v.0 c d w (reaches_trans G s' s u r (reaches_edge G s u e)) (sym (nontrivial_same H t v.0 v.2) ∙ n) in
      (rest.0, rest.1, joined_trans (joint G H) (at H s t) (at H u v.0) (at H s' rest.0) first rest.2)

  along_right : (s t t' : ℕ) → s < G.states → t < H.states → Path H t t' → reaches H t' t ≡ true → nontrivial G s ≡ true
      → (s' : ℕ) × (s' < G.states) × (joined (joint G H) (at H s t) (at H s' t') ≡ true)
  along_right s t t' a b stay r n = (s, a, joined_self (joint G H) (at H s t) (at_below G H s t a b))
  along_right s t t' a b (step {b = u} e w) r n =
      let v = nontrivial_move G s n in
      let c = edge_to H t u e in
      let d = edge_to G s v.0 v.1 in
      let first = joint_step s v.0 t u v.1 (joined_back G s v.0 v.2) e (reaches_trans H u t' t (path_reaches H u t' c w) r) in
      let rest = along_right v.0 u t' d c w (reaches_trans H t' t u r (reaches_edge H t u e)) (sym (nontrivial_same G s v.0 v.2) ∙ n) in
      (rest.0, rest.1, joined_trans (joint G H) (at H s t) (at H v.0 u) (at H rest.0 t') first rest.2)

  pub spread_left : (s s' t : ℕ) → t < H.states → nontrivial (joint G H) (at H s t) ≡ true → joined G s s' ≡ true
      → (t' : ℕ) × (t' < H.states) × (joined (joint G H) (at H s t) (at H s' t') ≡ true)
  spread_left s s' t b n j =
      along_left s s' t (reaches_from G s s' (joined_there G s s' j)) b (reaches_path G s s' (joined_there G s s' j)) (joined_back G s s' j)
      (nontrivial_right s t b n)

  pub spread_right : (s t t' : ℕ) → s < G.states → nontrivial (joint G H) (at H s t) ≡ true → joined H t t' ≡ true
      → (s' : ℕ) × (s' < G.states) × (joined (joint G H) (at H s t) (at H s' t') ≡ true)
  spread_right s t t' a n j =
      let b = reaches_from H t t' (joined_there H t t' j) in
      along_right s t t' a b (reaches_path H t t' (joined_there H t t' j)) (joined_back H t t' j) (nontrivial_left s t b n)
