-- Shortest ways: towards p there is always a next move, and each move that does not land in p leaves a shorter way.
--
--   prefer_present   : a tie goes to the present state where it is one of those tied
--   prefer_lowest    : and to the lowest of them where it is not, or (prefer_past) where it is past the count
--   prefer_same      : the choice depends on the members alone
--   prefer_wider     : a wider bound that adds no member changes nothing
--   near_some        : a walk along r from s to a member of p is a way of some length
--   toward_move      : where some move of s has a way, `toward` is a move of s
--   toward_falls     : and it lands in p, or leaves a shorter way
--   toward_lowest    : from outside p the lowest move with a shortest way
--   approach_below   : from the best move on it has fewer moves than there are states
--   approach_short   : and from outside p one fewer
use Prim.Native.Nat.{ℕ, zero, suc, ◌≤◌, ◌<◌}
use mathlib.Core.Path.{◌≡◌, refl, sym, ◌∙◌, subst⁻¹}
use mathlib.Core.Bool.{Bool, true, false, ◌&&◌}
use mathlib.Core.Logic.{◌⊎◌, inl, inr}
use native.Mathlib.Omega.{arith}
use native.Mathlib.Decide.{dec_lt}
use lib.Dec.{ltb}
use borrow.Author.Tests.{ltb-true, lt-ltb, le-ltb}
use Rattle.finite.specs.Bounded.{any, least, count}
use Rattle.finite.proofs.Truth.{decide, clash, false_of, and_intro, and_left, and_right, and_false_left, or_left, or_right, or_cases}
use Rattle.finite.proofs.Bounded.{
  any_intro,
  any_elim,
  least_le,
  least_below,
  least_member,
  least_before,
  least_at_most,
  least_same,
  least_unique,
  count_le,
  count_less,
  count_pos,
}
use Rattle.bits.specs.Member.{has}
use Rattle.bits.proofs.Membership.{has_pack_below, has_pack_past}
use Rattle.graphs.specs.Walk.{Walk, stay, step}
use Rattle.graphs.specs.Way.{widens, layer, near, approach, shortest, prefer, toward}

-- The choice on ties: the present state where it is one of those given, else the lowest.
pub prefer_present : (n s : ℕ) (p : ℕ → Bool) → s < n → p s ≡ true → prefer n s p ≡ s
unfolding prefer
prefer_present n s p b h = rw (and_intro (lt-ltb s n b) h, prefer) refl

pub prefer_lowest : (n s : ℕ) (p : ℕ → Bool) → p s ≡ false → prefer n s p ≡ least n p
unfolding prefer
prefer_lowest n s p h = rw (false_of (ltb s n && p s) (λ e. clash (and_right (ltb s n) (p s) e) h), prefer) refl

pub prefer_past : (n s : ℕ) (p : ℕ → Bool) → n ≤ s → prefer n s p ≡ least n p
unfolding prefer
prefer_past n s p b = rw (and_false_left (p s) (le-ltb s n b), prefer) refl

prefer_cases : (n s : ℕ) (p : ℕ → Bool) → ((s < n) × (p s ≡ true) × (prefer n s p ≡ s)) ⊎ (prefer n s p ≡ least n p)
unfolding prefer
prefer_cases n s p =
    elim (decide (ltb s n && p s)) [
      | inl e ↦ inl (ltb-true s n (and_left (ltb s n) (p s) e), and_right (ltb s n) (p s) e, rw (e, prefer) refl)
      | inr e ↦ inr (rw (e, prefer) refl)
    ]

-- All that the proofs of play know of it: it is one of those it is given.
pub prefer_member : (n s : ℕ) (p : ℕ → Bool) (k : ℕ) → k < n → p k ≡ true → p (prefer n s p) ≡ true
prefer_member n s p k b h =
    elim (prefer_cases n s p) [
      | inl c ↦ subst⁻¹ (λ (t : ℕ). p t ≡ true) c.2 c.1
      | inr e ↦ subst⁻¹ (λ (t : ℕ). p t ≡ true) e (least_member n p (least_below n p k b h))
    ]

pub prefer_below : (n s : ℕ) (p : ℕ → Bool) (k : ℕ) → k < n → p k ≡ true → prefer n s p < n
prefer_below n s p k b h =
    elim (prefer_cases n s p) [ inl c ↦ omega (arith, c.0, c.2) | inr e ↦ omega (arith, e, least_below n p k b h) ]

pub prefer_most : (n s : ℕ) (p : ℕ → Bool) → prefer n s p ≤ n
prefer_most n s p = elim (prefer_cases n s p) [ inl c ↦ omega (arith, c.0, c.2) | inr e ↦ omega (arith, e, least_le n p) ]

-- it depends on the members alone
pub prefer_same : (n s : ℕ) (p q : ℕ → Bool) → ((k : ℕ) → k < n → p k ≡ q k) → prefer n s p ≡ prefer n s q
prefer_same n s p q h =
    elim (prefer_cases n s p) [
      | inl c ↦ c.2 ∙ sym (prefer_present n s q c.0 (sym (h s c.0) ∙ c.1))
      | inr e ↦
          elim (prefer_cases n s q) [
            | inl d ↦ prefer_present n s p d.0 (h s d.0 ∙ d.1) ∙ sym d.2
            | inr f ↦ e ∙ least_same n p q h ∙ sym f
          ]
    ]

-- a wider bound that adds no member changes nothing
pub prefer_wider : (n w s : ℕ) (p : ℕ → Bool) (k : ℕ) → n ≤ w → ((j : ℕ) → p j ≡ true → j < n) → p k ≡ true → prefer w s p ≡ prefer n s p
prefer_wider n w s p k le below h =
    elim (prefer_cases w s p) [
      | inl c ↦ c.2 ∙ sym (prefer_present n s p (below s c.1) c.1)
      | inr e ↦
          elim (prefer_cases n s p) [
            | inl d ↦ prefer_present w s p (omega (arith, le, d.0)) d.1 ∙ sym d.2
            | inr f ↦ e ∙ least_unique w p (least n p) (omega (arith, le, b)) (least_member n p b) (least_before n p) ∙ sym f
          ]
    ]
  where
    b : least n p < n
    b = least_below n p k (below k h) h

module _ (n : ℕ) (r : ℕ → ℕ → Bool) (p : ℕ → Bool) where
  widens_cases : (l s : ℕ) → widens n r l s ≡ true → (has l s ≡ true) ⊎ ((t : ℕ) × (t < n) × (r s t ≡ true) × (has l t ≡ true))
  unfolding widens
  widens_cases l s h = go (or_cases (has l s) (any n (λ t. r s t && has l t)) h)
    where
      go : (has l s ≡ true) ⊎ (any n (λ t. r s t && has l t) ≡ true) → (has l s ≡ true) ⊎ ((t : ℕ) × (t < n) × (r s t ≡ true) × (has l t ≡ true))
      go (inl e) = inl e
      go (inr e) =
          let w = any_elim n (λ t. r s t && has l t) e in
          inr (w.0, w.1, and_left (r s w.0) (has l w.0) w.2, and_right (r s w.0) (has l w.0) w.2)

  pub near_target : (s : ℕ) → s < n → p s ≡ true → near n r p zero s ≡ true
  unfolding near layer
  near_target s b h = has_pack_below n p s b ∙ h

  pub near_below : (k s : ℕ) → near n r p k s ≡ true → s < n
  unfolding near layer
  near_below zero s h = elim (dec_lt s n) [ yes b ↦ b | no b ↦ clash h (has_pack_past n p s (omega arith)) ]
  near_below (suc k) s h =
      elim (dec_lt s n) [ yes b ↦ b | no b ↦ clash h (has_pack_past n (widens n r (layer n r p k)) s (omega arith)) ]

  pub near_zero : (s : ℕ) → near n r p zero s ≡ true → p s ≡ true
  unfolding near layer
  near_zero s h = sym (has_pack_below n p s (near_below zero s h)) ∙ h

  near_suc : (k s : ℕ) → s < n → widens n r (layer n r p k) s ≡ true → near n r p (suc k) s ≡ true
  unfolding near layer
  near_suc k s b h = has_pack_below n (widens n r (layer n r p k)) s b ∙ h

  near_pred : (k s : ℕ) → near n r p (suc k) s ≡ true → widens n r (layer n r p k) s ≡ true
  unfolding near layer
  near_pred k s h = sym (has_pack_below n (widens n r (layer n r p k)) s (near_below (suc k) s h)) ∙ h

  pub near_more : (k s : ℕ) → near n r p k s ≡ true → near n r p (suc k) s ≡ true
  unfolding near widens
  near_more k s h =
      near_suc k s (near_below k s h) (or_left (any n (λ t. r s t && has (layer n r p k) t)) h)

  pub near_step : (k s t : ℕ) → s < n → r s t ≡ true → near n r p k t ≡ true → near n r p (suc k) s ≡ true
  unfolding near widens
  near_step k s t b e h =
      near_suc k s b
      (or_right (has (layer n r p k) s) (any_intro n (λ u. r s u && has (layer n r p k) u) t (near_below k t h) (and_intro e h)))

  -- a way of at most k + 1 moves is one of at most k, or begins with a move
  pub near_cases : (k s : ℕ) → near n r p (suc k) s ≡ true → (near n r p k s ≡ true) ⊎ ((t : ℕ) × (t < n) × (r s t ≡ true) × (near n r p k t ≡ true))
  unfolding near
  near_cases k s h = widens_cases (layer n r p k) s (near_pred k s h)

  pub near_some : {s t : ℕ} → ((a b : ℕ) → r a b ≡ true → a < n) → Walk (λ (a b : ℕ). r a b ≡ true) s t → t < n → p t ≡ true → (k : ℕ) × (near n r p k s ≡ true)
  near_some {s} from stay b h = (zero, near_target s b h)
  near_some {s} from (step {b = u} e w) b h = let v = near_some from w b h in (suc v.0, near_step v.0 s u (from s u e) e v.1)

  -- how far: the layers up to a first one that holds s all grow, so there are no more of them than states
  grows : (k s : ℕ) → near n r p k s ≡ true → ((j : ℕ) → j < k → near n r p j s ≡ false) → k < count n (near n r p k)
  grows zero s h f = count_pos n (near n r p zero) s (near_below zero s h) h
  grows (suc k) s h f = go (near_cases k s h) (grows k)
    where
      go : (near n r p k s ≡ true) ⊎ ((t : ℕ) × (t < n) × (r s t ≡ true) × (near n r p k t ≡ true))
          → ((t : ℕ) → near n r p k t ≡ true → ((j : ℕ) → j < k → near n r p j t ≡ false) → k < count n (near n r p k))
          → suc k < count n (near n r p (suc k))
      go (inl e) rec = clash e (f k (omega arith))
      go (inr w) rec =
          let first : (j : ℕ) → j < k → near n r p j w.0 ≡ false =
          λ j b. false_of (near n r p j w.0)
          (λ a. clash (near_step j s w.0 (near_below (suc k) s h) w.2 a) (f (suc j) (omega arith))) in
          omega (
            arith,
            rec w.0 w.3 first,
            count_less n (near n r p k) (near n r p (suc k)) (λ u b a. near_more k u a) s (near_below (suc k) s h)
                (f k (omega arith)) h,
          )

  pub near_short : (k s : ℕ) → near n r p k s ≡ true → (j : ℕ) × (j < n) × (near n r p j s ≡ true)
  near_short k s h =
      let q : ℕ → Bool = λ j. near n r p j s in
      let b = least_below (suc k) q k (omega arith) h in
      let m = least (suc k) q in
      let member = least_member (suc k) q b in
      (m, omega (arith, grows m s member (λ j c. least_before (suc k) q j c), count_le n (near n r p m)), member)

  -- some move of s has a way to p
  pub record Leads (s : ℕ) : Type 0 where
    pub next : ℕ
    pub moves : ℕ
    pub move : r s next ≡ true
    pub way : near n r p moves next ≡ true

  some_near : ℕ → ℕ → Bool
  some_near s k = any n (λ t. r s t && near n r p k t)

  approach_at : (s : ℕ) → approach n r p s ≡ least n (some_near s)
  unfolding approach some_near
  approach_at s = refl

  some_near_intro : (s t k : ℕ) → r s t ≡ true → near n r p k t ≡ true → some_near s k ≡ true
  unfolding some_near
  some_near_intro s t k e h = any_intro n (λ u. r s u && near n r p k u) t (near_below k t h) (and_intro e h)

  some_near_elim : (s k : ℕ) → some_near s k ≡ true → (t : ℕ) × (t < n) × (r s t ≡ true) × (near n r p k t ≡ true)
  unfolding some_near
  some_near_elim s k h =
      let w = any_elim n (λ u. r s u && near n r p k u) h in
      (w.0, w.1, and_left (r s w.0) (near n r p k w.0) w.2, and_right (r s w.0) (near n r p k w.0) w.2)

  found : (s : ℕ) → Leads s → least n (some_near s) < n
  found s w =
      let v = near_short w.moves w.next w.way in
      least_below n (some_near s) v.0 v.1 (some_near_intro s w.next v.0 w.move v.2)

  pub approach_below : (s : ℕ) → Leads s → approach n r p s < n
  approach_below s w = rw (approach_at s) (found s w)

  pub approach_best : (s t k : ℕ) → r s t ≡ true → near n r p k t ≡ true → approach n r p s ≤ k
  approach_best s t k e h = rw (approach_at s) (least_at_most n (some_near s) k (some_near_intro s t k e h))

  shortest_some : (s : ℕ) → Leads s → (t : ℕ) × (t < n) × (shortest n r p s t ≡ true)
  unfolding shortest
  shortest_some s w =
      let v = some_near_elim s (approach n r p s) (rw (approach_at s) (least_member n (some_near s) (found s w))) in
      (v.0, v.1, and_intro v.2 v.3)

  toward_shortest : (s : ℕ) → Leads s → shortest n r p s (toward n r p s) ≡ true
  unfolding toward
  toward_shortest s w = let v = shortest_some s w in prefer_member n s (shortest n r p s) v.0 v.1 v.2

  pub toward_move : (s : ℕ) → Leads s → r s (toward n r p s) ≡ true
  unfolding shortest
  toward_move s w = and_left (r s (toward n r p s)) (near n r p (approach n r p s) (toward n r p s)) (toward_shortest s w)

  pub toward_near : (s : ℕ) → Leads s → near n r p (approach n r p s) (toward n r p s) ≡ true
  unfolding shortest
  toward_near s w = and_right (r s (toward n r p s)) (near n r p (approach n r p s) (toward n r p s)) (toward_shortest s w)

  -- where the move does not land, its own shortest way is one move shorter
  falls : (s t k : ℕ) → approach n r p s ≡ k → r s t ≡ true → near n r p k t ≡ true → (p t ≡ true) ⊎ (Leads t × (approach n r p t < k))
  falls s t zero e m h = inl (near_zero t h)
  falls s t (suc k) e m h = go (near_cases k t h)
    where
      go : (near n r p k t ≡ true) ⊎ ((u : ℕ) × (u < n) × (r t u ≡ true) × (near n r p k u ≡ true)) → (p t ≡ true) ⊎ (Leads t × (approach n r p t < suc k))
      go (inl a) = absurd (omega (arith, approach_best s t k m a))
      go (inr w) = inr (record { next = w.0; moves = k; move = w.2; way = w.3 }, omega (arith, approach_best t w.0 k w.2 w.3))

  pub toward_falls : (s : ℕ) → Leads s → (p (toward n r p s) ≡ true) ⊎ (Leads (toward n r p s) × (approach n r p (toward n r p s) < approach n r p s))
  toward_falls s w = falls s (toward n r p s) (approach n r p s) refl (toward_move s w) (toward_near s w)

  -- From outside p the shortest way has fewer moves than there are states: one more than `approach`, and the states on it are all different.
  outside_near : (s : ℕ) → p s ≡ false → (j : ℕ) → j ≤ approach n r p s → near n r p j s ≡ false
  outside_near s f zero b = false_of (near n r p zero s) (λ h. clash (near_zero s h) f)
  outside_near s f (suc j) b = go (outside_near s f j (omega arith))
    where
      go : near n r p j s ≡ false → near n r p (suc j) s ≡ false
      go e =
          false_of (near n r p (suc j) s)
          (λ h. elim (near_cases j s h) [
            | inl a ↦ clash a e
            | inr v ↦ absurd (omega (arith, approach_best s v.0 j v.2 v.3))
          ])

  -- so none begins with a move to the present state, and a tie goes to the lowest
  pub toward_lowest : (s : ℕ) → p s ≡ false → toward n r p s ≡ least n (shortest n r p s)
  unfolding toward shortest
  toward_lowest s f =
      prefer_lowest n s (shortest n r p s)
      (false_of (shortest n r p s s)
      (λ h. clash (and_right (r s s) (near n r p (approach n r p s) s) h) (outside_near s f (approach n r p s) (omega arith))))

  pub approach_short : (s : ℕ) → s < n → p s ≡ false → Leads s → suc (approach n r p s) < n
  approach_short s b f w =
      let h = near_step (approach n r p s) s (toward n r p s) b (toward_move s w) (toward_near s w) in
      omega (arith, grows (suc (approach n r p s)) s h (λ j c. outside_near s f j (omega arith)), count_le n (near n r p (suc (approach n r p s))))
