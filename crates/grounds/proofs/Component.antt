-- Components told of walks are the components that are computed.
--
--   joined_told, told_joined            : Together, from joined and back
--   nontrivial_told, told_nontrivial    : Nontrivial, from nontrivial and back
--   trivial_told, told_trivial          : the same of a component that is trivial
--   meets_told, told_meets              : Meets, from meets_at and back
--   leaves_told, told_leaves            : Leaves, from leaves and back
--   entered_below                       : where a move out leads is in range
--   all_of_at, all_of_place               : a test on every member of a list, by places
use Prim.Native.Nat.{ℕ, zero, suc, ◌<◌}
use mathlib.Core.Path.{◌≡◌, refl}
use mathlib.Core.Bool.{Bool, true, false}
use mathlib.Core.List.{List, [], ◌∷◌}
use mathlib.Core.Logic.{◌⊎◌, inl, inr}
use native.Mathlib.Omega.{arith}
use lib.ListN.{length, get_or}
use Rattle.finite.specs.Lists.{all_of}
use Rattle.finite.proofs.Truth.{clash, false_of, and_left, and_right, and_cases}
use Rattle.graphs.specs.Graph.{Graph}
use Rattle.graphs.specs.Component.{joined, nontrivial, leaves, meets_at}
use Rattle.graphs.proofs.Graph.{edge_to}
use Rattle.graphs.proofs.Closure.{reaches_path, path_reaches, path_below}
use Rattle.graphs.proofs.Component.{
  joined_intro,
  joined_there,
  joined_back,
  joined_self,
  nontrivial_move,
  nontrivial_joined,
  nontrivial_same,
  leaves_intro,
  leaves_elim,
  leaves_apart,
  meets_at_intro,
  meets_at_elim,
}
use Rattle.grounds.specs.Component.{Together, Nontrivial, Meets, Leaves}

module _ (G : Graph) where
  pub joined_told : (s t : ℕ) → joined G s t ≡ true → Together G s t
  joined_told s t h = record { there = reaches_path G s t (joined_there G s t h); back = reaches_path G t s (joined_back G s t h) }

  pub told_joined : (s t : ℕ) → s < G.states → Together G s t → joined G s t ≡ true
  told_joined s t b w = joined_intro G s t (path_reaches G s t b w.there) (path_reaches G t s (path_below G w.there b) w.back)

  pub nontrivial_told : (s : ℕ) → s < G.states → nontrivial G s ≡ true → Nontrivial G s
  nontrivial_told s b h =
      let v = nontrivial_move G s h in
      record { from = s; to = v.0; move = v.1; begins = joined_told s s (joined_self G s b); ends = joined_told s v.0 v.2 }

  pub told_nontrivial : (s : ℕ) → s < G.states → Nontrivial G s → nontrivial G s ≡ true
  told_nontrivial s b v =
      rw (nontrivial_same G s v.from (told_joined s v.from b v.begins))
      (nontrivial_joined G s v.to v.from (told_joined s v.from b v.begins) v.move (told_joined s v.to b v.ends))

  pub trivial_told : (s : ℕ) → s < G.states → nontrivial G s ≡ false → Nontrivial G s → ⊥
  trivial_told s b h v = clash (told_nontrivial s b v) h

  pub told_trivial : (s : ℕ) → s < G.states → (Nontrivial G s → ⊥) → nontrivial G s ≡ false
  told_trivial s b n = false_of (nontrivial G s) (λ h. n (nontrivial_told s b h))

  pub meets_told : (s : ℕ) (p : ℕ → Bool) → meets_at G s p ≡ true → Meets G s p
  meets_told s p h = let v = meets_at_elim G s p h in record { state = v.0; inside = joined_told s v.0 v.2; member = v.1 }

  pub told_meets : (s : ℕ) (p : ℕ → Bool) → s < G.states → Meets G s p → meets_at G s p ≡ true
  told_meets s p b v = meets_at_intro G s p v.state v.member (told_joined s v.state b v.inside)

  pub leaves_told : (s t : ℕ) → s < G.states → leaves G s t ≡ true → Leaves G s t
  leaves_told s t b h =
      let v = leaves_elim G s t h in
      record {
        from = v.0;
        inside = joined_told s v.0 v.1;
        move = v.2;
        outside = λ w. clash (told_joined s t b w) (leaves_apart G s t h);
      }

  pub told_leaves : (s t : ℕ) → s < G.states → Leaves G s t → leaves G s t ≡ true
  told_leaves s t b v =
      leaves_intro G s v.from t (told_joined s v.from b v.inside) v.move (false_of (joined G s t) (λ h. v.outside (joined_told s t h)))

  pub entered_below : (s t : ℕ) → Leaves G s t → t < G.states
  entered_below s t v = edge_to G v.from t v.move

module _ {A : Type 0} (p : A → Bool) (d : A) where
  pub all_of_at : (l : List A) → all_of p l ≡ true → (k : ℕ) → k < length l → p (get_or l k d) ≡ true
  unfolding all_of
  all_of_at [] h k b = absurd (omega arith)
  all_of_at (a ∷ l) h zero b = and_left (p a) (all_of p l) h
  all_of_at (a ∷ l) h (suc k) b = all_of_at l (and_right (p a) (all_of p l) h) k (omega arith)

  -- the place of a counterexample
  pub all_of_place : (l : List A) → all_of p l ≡ false → (k : ℕ) × (k < length l) × (p (get_or l k d) ≡ false)
  unfolding all_of
  all_of_place [] h = clash refl h
  all_of_place (a ∷ l) h = go (and_cases (p a) (all_of p l) h) (all_of_place l)
    where
      go : (p a ≡ false) ⊎ (all_of p l ≡ false) → (all_of p l ≡ false → (k : ℕ) × (k < length l) × (p (get_or l k d) ≡ false))
          → (k : ℕ) × (k < suc (length l)) × (p (get_or (a ∷ l) k d) ≡ false)
      go (inl e) rec = (zero, omega arith, e)
      go (inr e) rec = let v = rec e in (suc v.0, omega (arith, v.1), v.2)
