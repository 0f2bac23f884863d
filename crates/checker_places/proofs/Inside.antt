-- Rounds inside a set X, and what is reached inside it.
--
--   enters, stays_in, to_end    : one step; a walk from a member; a walk that passes u or a member
--   round_inside                : a round inside X that passes u or a member of F, F being closed, lies in F
--   cycle_inside                : the same, of a round of configurations
use mathlib.Core.Path.{◌≡◌, ◌∙◌, ap, subst}
use mathlib.Core.Bool.{Bool, true}
use mathlib.Core.List.Memᴰ
use mathlib.Core.List.{Memᴰ}
use mathlib.Core.Logic.{◌⊎◌, inl, inr}
use Rattle.arena.proofs.Reach.{cycle_rest}
use Rattle.graphs.specs.Walk.{Walk, stay, step, passed}
use Rattle.graphs.proofs.Walk.{passed_first, passed_last}
use Rattle.arena.specs.Play.{Configuration, Cycle, configurations}
use Rattle.checker_places.specs.Search.{Closed}

module _ {A : Type 0} (R : A → A → Type 0) (X : A → Bool) (u : A) (F : A → Bool) (C : Closed R X u F) where
  pub enters : (a b : A) → (F a ≡ true) ⊎ (a ≡ u) → R a b → X b ≡ true → F b ≡ true
  enters a b (inl h) r x = C.on a b h (record { turn = r; there = x })
  enters a b (inr e) r x = C.enter b (record { turn = subst (λ (z : A). R z b) e r; there = x })

  pub stays_in : {a b : A} (w : Walk R a b) → ((c : A) → Memᴰ c (passed w) → X c ≡ true) → F a ≡ true → (c : A) → Memᴰ c (passed w) → F c ≡ true
  unfolding passed
  stays_in stay x h c m = elim (Memᴰ.cases_cons m) [ inl e ↦ ap F e ∙ h | inr n ↦ absurd (Memᴰ.not-nil n) ]
  stays_in (step {a = a} {b = b} r w) x h c m =
      go (Memᴰ.cases_cons m)
      (λ n. stays_in w (λ d k. x d (Memᴰ.tail k)) (enters a b (inl h) r (x b (Memᴰ.tail (passed_first w)))) c n)
    where
      go : (c ≡ a) ⊎ Memᴰ c (passed w) → (Memᴰ c (passed w) → F c ≡ true) → F c ≡ true
      go (inl e) rec = ap F e ∙ h
      go (inr n) rec = rec n

  to_end : {a b : A} (w : Walk R a b) → ((c : A) → Memᴰ c (passed w) → X c ≡ true) → (c : A) → Memᴰ c (passed w)
      → (F c ≡ true) ⊎ (c ≡ u) → (F b ≡ true) ⊎ (b ≡ u)
  unfolding passed
  to_end (stay {a = a}) x c m h =
      elim (Memᴰ.cases_cons m) [ inl e ↦ subst (λ (z : A). (F z ≡ true) ⊎ (z ≡ u)) e h | inr n ↦ absurd (Memᴰ.not-nil n) ]
  to_end {b} (step {a = a} {b = d} r w) x c m h = go (Memᴰ.cases_cons m) (λ n. to_end w (λ z k. x z (Memᴰ.tail k)) c n h)
    where
      go : (c ≡ a) ⊎ Memᴰ c (passed w) → (Memᴰ c (passed w) → (F b ≡ true) ⊎ (b ≡ u)) → (F b ≡ true) ⊎ (b ≡ u)
      go (inl e) rec =
          let first = enters a d (subst (λ (z : A). (F z ≡ true) ⊎ (z ≡ u)) e h) r (x d (Memᴰ.tail (passed_first w))) in
          inl (stays_in w (λ z k. x z (Memᴰ.tail k)) first b (passed_last w))
      go (inr n) rec = rec n

  -- From what it passes of F the round goes on to its end, which is its beginning, and from there to all of it.
  round_inside : {a b e : A} → R a b → (w : Walk R b e) → e ≡ a → ((c : A) → Memᴰ c (passed w) → X c ≡ true)
      → (c : A) → Memᴰ c (passed w) → (F c ≡ true) ⊎ (c ≡ u) → (d : A) → Memᴰ d (passed w) → F d ≡ true
  round_inside {a} {b} r w e x c m h d n =
      let begin = subst (λ (z : A). (F z ≡ true) ⊎ (z ≡ u)) e (to_end w x c m h) in
      stays_in w x (enters a b begin r (x b (passed_first w))) d n

module _ (First : Configuration → Type 0) (Turn : Configuration → Configuration → Type 0) where
  pub cycle_inside : (X F : Configuration → Bool) (u : Configuration) → Closed Turn X u F → (r : Cycle First Turn)
      → ((c : Configuration) → Memᴰ c (configurations First Turn r) → X c ≡ true)
      → (c : Configuration) → Memᴰ c (configurations First Turn r) → (F c ≡ true) ⊎ (c ≡ u)
      → (d : Configuration) → Memᴰ d (configurations First Turn r) → F d ≡ true
  unfolding configurations
  cycle_inside X F u C r x c m h d n =
      round_inside Turn X u F C r.turn r.rest r.back (λ z k. x z (Memᴰ.tail k)) c (cycle_rest First Turn r c m) h d (cycle_rest First Turn r d n)
