-- Laws of walks over any relation.
--
--   join v w           == the walk v and then the walk w
--   extend w r         == the walk w and one step more
--   image f g w        == the walk w seen through f, which carries a step to a step
--   iterate f k a      == f applied k times to a
--   trail f k a        == a, f a, .. up to iterate f k a
--   orbit              == the walk along a trail
use Prim.Native.Nat.{ℕ, zero, suc, ◌+◌}
use mathlib.Core.Path.{◌≡◌, refl, sym, ◌∙◌, ap, subst}
use mathlib.Core.Bool.{Bool, true, false, ◌||◌, or_assoc}
use mathlib.Core.List.Memᴰ
use mathlib.Core.List.{List, [], ◌∷◌, map, Memᴰ}
use mathlib.Core.Logic.{inl, inr}
use native.Mathlib.Nat.{zero-add, suc-add}
use Rattle.finite.specs.Lists.{any_of}
use Rattle.finite.proofs.Lists.{any_of_intro}
use Rattle.graphs.specs.Walk.{Walk, stay, step, passed}

absorb : (x y : Bool) → (x ≡ true → y ≡ true) → (x || false || y) ≡ y
absorb true y h = sym (h refl)
absorb false y h = refl

module _ {A : Type 0} {R : A → A → Type 0} where
  unfoldable pub join : {a b c : A} → Walk R a b → Walk R b c → Walk R a c
  join stay w = w
  join (step r v) w = step r (join v w)

  unfoldable pub extend : {a b c : A} → Walk R a b → R b c → Walk R a c
  extend stay r = step r stay
  extend (step q w) r = step q (extend w r)

  -- what a step keeps, a walk keeps
  pub keep : (I : A → Type 0) → ((a b : A) → I a → R a b → I b) → {a b : A} → Walk R a b → I a → I b
  keep I h stay i = i
  keep I h (step {a = a} {b = b} r w) i = keep I h w (h a b i r)

  pub passed_first : {a b : A} (w : Walk R a b) → Memᴰ a (passed w)
  unfolding passed
  passed_first stay = Memᴰ.head refl
  passed_first (step r w) = Memᴰ.head refl

  pub passed_last : {a b : A} (w : Walk R a b) → Memᴰ b (passed w)
  unfolding passed
  passed_last stay = Memᴰ.head refl
  passed_last (step r w) = Memᴰ.tail (passed_last w)

  -- a walk to what the walk passes, and on from there
  pub before : {a b : A} (w : Walk R a b) (c : A) → Memᴰ c (passed w) → Walk R a c
  unfolding passed
  before (stay {a = a}) c m = elim (Memᴰ.cases_cons m) [ inl e ↦ subst (Walk R a) (sym e) stay | inr n ↦ absurd (Memᴰ.not-nil n) ]
  before (step {a = a} r w) c m = elim (Memᴰ.cases_cons m) [ inl e ↦ subst (Walk R a) (sym e) stay | inr n ↦ step r (before w c n) ]

  pub after : {a b : A} (w : Walk R a b) (c : A) → Memᴰ c (passed w) → Walk R c b
  unfolding passed
  after (stay {a = a}) c m =
      elim (Memᴰ.cases_cons m) [ inl e ↦ subst (λ (x : A). Walk R x a) (sym e) stay | inr n ↦ absurd (Memᴰ.not-nil n) ]
  after {b} (step r w) c m =
      elim (Memᴰ.cases_cons m) [ inl e ↦ subst (λ (x : A). Walk R x b) (sym e) (step r w) | inr n ↦ after w c n ]

  -- a closed walk leads from anything that it passes to anything that it passes
  pub around : {a b : A} (w : Walk R a b) → b ≡ a → (c d : A) → Memᴰ c (passed w) → Memᴰ d (passed w) → Walk R c d
  around {a} {b} w e c d m n = join (subst (Walk R c) e (after w c m)) (before w d n)

  -- what joined walks pass
  any_join : (p : A → Bool) {a b c : A} (v : Walk R a b) (w : Walk R b c)
      → any_of p (passed (join v w)) ≡ (any_of p (passed v) || any_of p (passed w))
  unfolding passed join any_of
  any_join p (stay {a = a}) w = sym (absorb (p a) (any_of p (passed w)) (λ e. any_of_intro p (passed_first w) e))
  any_join p (step {a = a} r v) w = ap (◌||◌ (p a)) (any_join p v w) ∙ sym (or_assoc (p a) (any_of p (passed v)) (any_of p (passed w)))

module _ {A B : Type 0} {R : A → A → Type 0} (S : B → B → Type 0) (f : A → B) (g : (a b : A) → R a b → S (f a) (f b)) where
  unfoldable pub image : {a b : A} → Walk R a b → Walk S (f a) (f b)
  image stay = stay
  image (step {a = a} {b = b} r w) = step (g a b r) (image w)

  passed_image : {a b : A} (w : Walk R a b) → passed (image w) ≡ map f (passed w)
  unfolding passed image
  passed_image (stay {a = a}) = refl
  passed_image (step {a = a} r w) = ap (◌∷◌ (f a)) (passed_image w)

module _ {A : Type 0} (f : A → A) where
  unfoldable pub iterate : ℕ → A → A
  iterate zero a = a
  iterate (suc k) a = iterate k (f a)

  unfoldable pub trail : ℕ → A → List A
  trail zero a = a ∷ []
  trail (suc k) a = a ∷ trail k (f a)

  pub iterate_add : (m k : ℕ) (a : A) → iterate (m + k) a ≡ iterate k (iterate m a)
  unfolding iterate
  iterate_add zero k a = rw zero-add refl
  iterate_add (suc m) k a = rw suc-add (iterate_add m k (f a))

-- the walk along a trail, seen through g
module _ {A B : Type 0} (S : B → B → Type 0) (f : A → A) (g : A → B) (h : (a : A) → S (g a) (g (f a))) where
  unfoldable pub orbit : (k : ℕ) (a : A) → Walk S (g a) (g (iterate f k a))
  unfolding iterate
  orbit zero a = stay
  orbit (suc k) a = step (h a) (orbit k (f a))

  pub passed_orbit : (k : ℕ) (a : A) → passed (orbit k a) ≡ map g (trail f k a)
  unfolding passed orbit trail
  passed_orbit zero a = refl
  passed_orbit (suc k) a = ap (◌∷◌ (g a)) (passed_orbit k (f a))
