-- Laws of the quantifiers over a list. Membership is List.Memᴰ of mathlib.Core.List.
--
--   all_of_intro, all_of_elim      : the test holds of every member
--   any_of_intro, any_of_elim      : it holds of some member
--   all_of_false, any_of_false     : it fails of some member, of every member
--   all_of_same, any_of_same       : tests that agree
--   map_same, any_of_map          : the images of a list
--   any_default                  : inside a list the default is not read
--   all_default                  : a list of defaults
--   drop_same                    : lists with the same entries from a place on
--   member_place, place_member   : the place of a member, and the member at a place
--   all_of_any_of                  : where a test holds of every member and another of some member, they hold of one together
use Prim.Native.Nat.{ℕ, zero, suc, ◌+◌, ◌-◌, ◌≤◌, ◌<◌}
use mathlib.Core.Path.{◌≡◌, refl, sym, ◌∙◌, ap}
use mathlib.Core.Bool.{Bool, true, false, ◌||◌}
use mathlib.Core.List.Memᴰ
use mathlib.Core.List.{List, [], ◌∷◌, map, Memᴰ}
use mathlib.Core.Logic.{◌⊎◌, inl, inr}
use native.Mathlib.Omega.{arith}
use lib.ListN.{length, get_or, drop, replicate, length-drop}
use lib.Seq.{get_or-drop, ext_get_or}
use Rattle.finite.specs.Lists.{all_of, any_of}
use Rattle.finite.proofs.Truth.{clash, false_of, and_intro, and_left, and_right, and_cases, or_left, or_right, or_cases}

module _ {A : Type 0} where
  pub all_of_intro : (p : A → Bool) (l : List A) → ((a : A) → Memᴰ a l → p a ≡ true) → all_of p l ≡ true
  unfolding all_of
  all_of_intro p [] h = refl
  all_of_intro p (a ∷ l) h = and_intro (h a (Memᴰ.head refl)) (all_of_intro p l (λ b m. h b (Memᴰ.tail m)))

  pub all_of_elim : (p : A → Bool) (l : List A) → all_of p l ≡ true → (a : A) → Memᴰ a l → p a ≡ true
  unfolding all_of
  all_of_elim p [] h a m = absurd (Memᴰ.not-nil m)
  all_of_elim p (b ∷ l) h a m =
      elim (Memᴰ.cases_cons m) [
        | inl e ↦ ap p e ∙ and_left (p b) (all_of p l) h
        | inr n ↦ all_of_elim p l (and_right (p b) (all_of p l) h) a n
      ]

  pub any_of_intro : (p : A → Bool) {a : A} {l : List A} → Memᴰ a l → p a ≡ true → any_of p l ≡ true
  unfolding any_of
  any_of_intro p (Memᴰ.head {xs = l} e) h = or_left (any_of p l) (sym (ap p e) ∙ h)
  any_of_intro p (Memᴰ.tail {x = b} m) h = or_right (p b) (any_of_intro p m h)

  -- a witness of any_of
  pub any_of_elim : (p : A → Bool) (l : List A) → any_of p l ≡ true → (a : A) × Memᴰ a l × (p a ≡ true)
  unfolding any_of
  any_of_elim p [] h = clash h refl
  any_of_elim p (b ∷ l) h = go (or_cases (p b) (any_of p l) h) (any_of_elim p l)
    where
      go : (p b ≡ true) ⊎ (any_of p l ≡ true) → (any_of p l ≡ true → (a : A) × Memᴰ a l × (p a ≡ true)) → (a : A) × Memᴰ a (b ∷ l) × (p a ≡ true)
      go (inl e) rec = (b, Memᴰ.head refl, e)
      go (inr e) rec = let w = rec e in (w.0, Memᴰ.tail w.1, w.2)

  -- a counterexample of all_of
  pub all_of_false : (p : A → Bool) (l : List A) → all_of p l ≡ false → (a : A) × Memᴰ a l × (p a ≡ false)
  unfolding all_of
  all_of_false p [] h = clash refl h
  all_of_false p (b ∷ l) h = go (and_cases (p b) (all_of p l) h) (all_of_false p l)
    where
      go : (p b ≡ false) ⊎ (all_of p l ≡ false) → (all_of p l ≡ false → (a : A) × Memᴰ a l × (p a ≡ false)) → (a : A) × Memᴰ a (b ∷ l) × (p a ≡ false)
      go (inl e) rec = (b, Memᴰ.head refl, e)
      go (inr e) rec = let w = rec e in (w.0, Memᴰ.tail w.1, w.2)

  pub all_of_fails : (p : A → Bool) {l : List A} {a : A} → Memᴰ a l → p a ≡ false → all_of p l ≡ false
  all_of_fails p {l} {a} m h = false_of (all_of p l) (λ e. clash (all_of_elim p l e a m) h)

  pub any_of_false : (p : A → Bool) (l : List A) → any_of p l ≡ false → (a : A) → Memᴰ a l → p a ≡ false
  any_of_false p l h a m = false_of (p a) (λ e. clash (any_of_intro p m e) h)

  pub any_of_none : (p : A → Bool) (l : List A) → ((a : A) → Memᴰ a l → p a ≡ false) → any_of p l ≡ false
  any_of_none p l h = false_of (any_of p l) (λ e. let w = any_of_elim p l e in clash w.2 (h w.0 w.1))

  -- tests that agree
  pub all_of_same : (p q : A → Bool) (l : List A) → ((a : A) → Memᴰ a l → p a ≡ q a) → all_of p l ≡ all_of q l
  unfolding all_of
  all_of_same p q [] h = refl
  all_of_same p q (a ∷ l) h = rw (h a (Memᴰ.head refl), all_of_same p q l (λ b m. h b (Memᴰ.tail m))) refl

  pub any_of_same : (p q : A → Bool) (l : List A) → ((a : A) → Memᴰ a l → p a ≡ q a) → any_of p l ≡ any_of q l
  unfolding any_of
  any_of_same p q [] h = refl
  any_of_same p q (a ∷ l) h = rw (h a (Memᴰ.head refl), any_of_same p q l (λ b m. h b (Memᴰ.tail m))) refl

  -- where p holds of every member and q of some member, p and q hold of one together
  pub all_of_any_of : (p q : A → Bool) (l : List A) → all_of p l ≡ true → any_of q l ≡ true → (a : A) × (p a ≡ true) × (q a ≡ true)
  all_of_any_of p q l h k = let w = any_of_elim q l k in (w.0, all_of_elim p l h w.0 w.1, w.2)

module _ {A B : Type 0} where
  -- two ways to take an image's image that agree
  pub map_same : {C : Type 0} (f g : A → B) (u v : B → C) → ((a : A) → u (f a) ≡ v (g a)) → (l : List A) → map u (map f l) ≡ map v (map g l)
  map_same f g u v h [] = refl
  map_same f g u v h (a ∷ l) = rw (h a, map_same f g u v h l) refl

  pub any_of_map : (p : B → Bool) (f : A → B) (l : List A) → any_of p (map f l) ≡ any_of (λ a. p (f a)) l
  unfolding any_of
  any_of_map p f [] = refl
  any_of_map p f (a ∷ l) = ap (◌||◌ (p (f a))) (any_of_map p f l)

pub any_default : {A : Type 0} (l : List A) (i : ℕ) (d e : A) → i < length l → get_or l i d ≡ get_or l i e
any_default [] i d e h = absurd (omega arith)
any_default (x ∷ l) zero d e h = refl
any_default (x ∷ l) (suc i) d e h = any_default l i d e (omega arith)

pub all_default : {A : Type 0} (n i : ℕ) (d : A) → get_or (replicate n d) i d ≡ d
all_default zero i d = refl
all_default (suc n) zero d = refl
all_default (suc n) (suc i) d = all_default n i d

pub drop_same : (n : ℕ) (l m : List ℕ) → length m ≡ length l → ((k : ℕ) → n ≤ k → get_or m k 0 ≡ get_or l k 0) → drop n m ≡ drop n l
drop_same n l m e h =
    ext_get_or 0 (drop n m) (drop n l) (length-drop n m ∙ ap (λ (k : ℕ). k - n) e ∙ sym (length-drop n l))
    (λ i b. get_or-drop n m i 0 ∙ h (n + i) (omega arith) ∙ sym (get_or-drop n l i 0))

pub member_place : {A : Type 0} {a : A} (l : List A) (d : A) → Memᴰ a l → (k : ℕ) × (k < length l) × (get_or l k d ≡ a)
member_place [] d m = absurd (Memᴰ.not-nil m)
member_place {A} {a} (x ∷ l) d m = go (Memᴰ.cases_cons m) (λ n. member_place l d n)
  where
    go : (a ≡ x) ⊎ Memᴰ a l → (Memᴰ a l → (k : ℕ) × (k < length l) × (get_or l k d ≡ a)) → (k : ℕ) × (k < suc (length l)) × (get_or (x ∷ l) k d ≡ a)
    go (inl e) rec = (zero, omega arith, sym e)
    go (inr n) rec = let v = rec n in (suc v.0, omega (arith, v.1), v.2)

pub place_member : {A : Type 0} (l : List A) (d : A) (k : ℕ) → k < length l → Memᴰ (get_or l k d) l
place_member [] d k b = absurd (omega arith)
place_member (x ∷ l) d zero b = Memᴰ.head refl
place_member (x ∷ l) d (suc k) b = Memᴰ.tail (place_member l d k (omega arith))
