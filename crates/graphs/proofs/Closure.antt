-- `reaches` is the reflexive and transitive closure: s reaches t exactly when a walk leads there.
use Prim.Native.Nat.{ℕ, zero, suc, ◌<◌}
use mathlib.Core.Path.{◌≡◌, refl, ◌∙◌, subst}
use mathlib.Core.Bool.{true, ◌&&◌}
use mathlib.Core.List.{List}
use mathlib.Core.Logic.{◌⊎◌, inl, inr}
use native.Mathlib.Omega.{arith}
use lib.Dec.{eqb}
use borrow.Author.Tests.{eqb-true, eq-eqb}
use Rattle.finite.proofs.Truth.{and_intro, and_left, and_right, or_left, or_right, or_cases}
use Rattle.finite.proofs.Bounded.{below_suc}
use Rattle.graphs.specs.Walk.{Walk, stay, step}
use Rattle.graphs.specs.Graph.{Graph, edge, Moves}
use Rattle.graphs.specs.Rows.{rel}
use Rattle.graphs.specs.Closure.{nearby, joins, via, reaches}
use Rattle.graphs.proofs.Walk.{join}
use Rattle.graphs.proofs.Graph.{edge_from, edge_to}
use Rattle.graphs.proofs.Rows.{rel_rows, rel_from, rel_to, rel_holds}

-- a walk along the graph's moves
abbrev pub Path : Graph → ℕ → ℕ → Type 0
Path G s t = Walk (Moves G) s t

module _ (G : Graph) where
  -- where a walk from a state ends
  pub path_below : {s t : ℕ} → Path G s t → s < G.states → t < G.states
  path_below stay b = b
  path_below (step {a = s} {b = u} e w) b = path_below w (edge_to G s u e)

  pub near_intro_same : (s : ℕ) → nearby G s s ≡ true
  unfolding nearby
  near_intro_same s = or_left (edge G s s) (eq-eqb s s refl)

  pub near_intro_edge : (s t : ℕ) → edge G s t ≡ true → nearby G s t ≡ true
  unfolding nearby
  near_intro_edge s t h = or_right (eqb s t) h

  near_path : (s t : ℕ) → nearby G s t ≡ true → Path G s t
  unfolding nearby
  near_path s t h =
      elim (or_cases (eqb s t) (edge G s t) h) [
        | inl e ↦ subst (λ (k : ℕ). Path G s k) (eqb-true s t e) stay
        | inr e ↦ step e stay
      ]

  joins_cases : (r : List ℕ) (k s t : ℕ) → joins r k s t ≡ true → (rel r s t ≡ true) ⊎ ((rel r s k ≡ true) × (rel r k t ≡ true))
  unfolding joins
  joins_cases r k s t h =
      elim (or_cases (rel r s t) (rel r s k && rel r k t) h) [
        | inl e ↦ inl e
        | inr e ↦ inr (and_left (rel r s k) (rel r k t) e, and_right (rel r s k) (rel r k t) e)
      ]

  joins_once : (r : List ℕ) (k s t : ℕ) → rel r s t ≡ true → joins r k s t ≡ true
  unfolding joins
  joins_once r k s t h = or_left (rel r s k && rel r k t) h

  joins_by : (r : List ℕ) (k s t : ℕ) → rel r s k ≡ true → rel r k t ≡ true → joins r k s t ≡ true
  unfolding joins
  joins_by r k s t a b = or_right (rel r s t) (and_intro a b)

  -- what each round of `via` says, and its bounds
  via_from : (k s t : ℕ) → rel (via G k) s t ≡ true → s < G.states
  unfolding via
  via_from zero s t h = rel_from G.states G.states (nearby G) s t h
  via_from (suc k) s t h = rel_from G.states G.states (joins (via G k) k) s t h

  via_to : (k s t : ℕ) → rel (via G k) s t ≡ true → t < G.states
  unfolding via
  via_to zero s t h = rel_to G.states G.states (nearby G) s t h
  via_to (suc k) s t h = rel_to G.states G.states (joins (via G k) k) s t h

  via_start : (s t : ℕ) → s < G.states → t < G.states → nearby G s t ≡ true → rel (via G zero) s t ≡ true
  unfolding via
  via_start s t a b h = rel_rows G.states G.states (nearby G) s t a b ∙ h

  via_next : (k s t : ℕ) → s < G.states → t < G.states → joins (via G k) k s t ≡ true → rel (via G (suc k)) s t ≡ true
  unfolding via
  via_next k s t a b h = rel_rows G.states G.states (joins (via G k) k) s t a b ∙ h

  via_back : (k s t : ℕ) → rel (via G (suc k)) s t ≡ true → (rel (via G k) s t ≡ true) ⊎ ((rel (via G k) s k ≡ true) × (rel (via G k) k t ≡ true))
  unfolding via
  via_back k s t h = joins_cases (via G k) k s t (rel_holds G.states G.states (joins (via G k) k) s t h)

  via_grows : (k s t : ℕ) → rel (via G k) s t ≡ true → rel (via G (suc k)) s t ≡ true
  via_grows k s t h = via_next k s t (via_from k s t h) (via_to k s t h) (joins_once (via G k) k s t h)

  via_through : (k s t : ℕ) → rel (via G k) s k ≡ true → rel (via G k) k t ≡ true → rel (via G (suc k)) s t ≡ true
  via_through k s t a b = via_next k s t (via_from k s k a) (via_to k k t b) (joins_by (via G k) k s t a b)

  via_near : (k s t : ℕ) → s < G.states → t < G.states → nearby G s t ≡ true → rel (via G k) s t ≡ true
  via_near zero s t a b h = via_start s t a b h
  via_near (suc k) s t a b h = via_grows k s t (via_near k s t a b h)

  via_path : (k s t : ℕ) → rel (via G k) s t ≡ true → Path G s t
  unfolding via
  via_path zero s t h = near_path s t (rel_holds G.states G.states (nearby G) s t h)
  via_path (suc k) s t h =
      elim (via_back k s t h) [
        | inl e ↦ via_path k s t e
        | inr e ↦ join (via_path k s k e.0) (via_path k k t e.1)
      ]

  -- round k is transitive through every state below k
  via_trans : (k m s t : ℕ) → m < k → rel (via G k) s m ≡ true → rel (via G k) m t ≡ true → rel (via G k) s t ≡ true
  via_trans zero m s t b p q = absurd (omega arith)
  via_trans (suc k) m s t b p q = go (below_suc m k b) (via_back k s m p) (via_back k m t q) (via_trans k m)
    where
      R : ℕ → ℕ → Type 0
      R a c = rel (via G k) a c ≡ true

      to_last : (R s m) ⊎ (R s k × R k m) → m ≡ k → R s k
      to_last (inl a) e = rw e at a
      to_last (inr a) e = a.0

      from_last : (R m t) ⊎ (R m k × R k t) → m ≡ k → R k t
      from_last (inl a) e = rw e at a
      from_last (inr a) e = a.1

      go : (m ≡ k) ⊎ (m < k) → (R s m) ⊎ (R s k × R k m) → (R m t) ⊎ (R m k × R k t)
          → ((a c : ℕ) → m < k → R a m → R m c → R a c) → rel (via G (suc k)) s t ≡ true
      go (inl e) a c rec = via_through k s t (to_last a e) (from_last c e)
      go (inr l) (inl a) (inl c) rec = via_grows k s t (rec s t l a c)
      go (inr l) (inl a) (inr c) rec = via_through k s t (rec s k l a c.0) c.1
      go (inr l) (inr a) (inl c) rec = via_through k s t a.0 (rec k t l a.1 c)
      go (inr l) (inr a) (inr c) rec = via_through k s t a.0 c.1

  pub reaches_from : (s t : ℕ) → reaches G s t ≡ true → s < G.states
  unfolding reaches
  reaches_from s t h = via_from G.states s t h

  pub reaches_to : (s t : ℕ) → reaches G s t ≡ true → t < G.states
  unfolding reaches
  reaches_to s t h = via_to G.states s t h

  pub reaches_self : (s : ℕ) → s < G.states → reaches G s s ≡ true
  unfolding reaches
  reaches_self s a = via_near G.states s s a a (near_intro_same s)

  pub reaches_edge : (s t : ℕ) → edge G s t ≡ true → reaches G s t ≡ true
  unfolding reaches
  reaches_edge s t h = via_near G.states s t (edge_from G s t h) (edge_to G s t h) (near_intro_edge s t h)

  pub reaches_trans : (s t u : ℕ) → reaches G s t ≡ true → reaches G t u ≡ true → reaches G s u ≡ true
  unfolding reaches
  reaches_trans s t u a b = via_trans G.states t s u (via_to G.states s t a) a b

  pub reaches_path : (s t : ℕ) → reaches G s t ≡ true → Path G s t
  unfolding reaches
  reaches_path s t h = via_path G.states s t h

  pub path_reaches : (s t : ℕ) → s < G.states → Path G s t → reaches G s t ≡ true
  path_reaches s t a stay = reaches_self s a
  path_reaches s t a (step {b = b} e w) = reaches_trans s b t (reaches_edge s b e) (path_reaches b t (edge_to G s b e) w)
