-- Laws of sets in words, for any number of words of any width.
--
--   Words w l          == each of l is a word of w bits
--   Linked w f c a b   == c, a and b are as many words, and those of c have the bits that f makes of those of a and b
--   has_words          : a set told by its first word and by those after it
--   linked             : an operation on words, bit by bit, is that operation on sets
--   insert_first, insert_later : a member more, in the first word or in a later one
--   strip_first, strip_later   : a member less, the lowest: of the first word that has one
--   below_first, below_later   : the states below a bound
--   least_first, ..    : the lowest member, the count and the tests, one word after the other
--   words_same         : words that hold the same set are the same
use Prim.Native.Nat.{ℕ, ◌+◌, ◌-◌, ◌*◌, ◌^◌, ◌≤◌, ◌<◌}
use mathlib.Core.Path.{◌≡◌, refl, sym, ◌∙◌, ap, ap₂}
use mathlib.Core.Bool.{Bool, true, false, not, ◌&&◌, ◌||◌}
use mathlib.Core.List.{List, [], ◌∷◌}
use mathlib.Core.Logic.{◌⊎◌, inl, inr, ◌≢◌}
use native.Mathlib.Nat.{suc-mul}
use native.Mathlib.Decide.{ℕ_discrete, dec_lt}
use native.Mathlib.Omega.{arith}
use lib.Dec.{eqb, ltb}
use lib.Arith.{digits_lt}
use lib.ListN.{length}
use lib.Pow.{pow_pos, pow-add}
use Rattle.finite.specs.Bounded.{least, count}
use Rattle.finite.proofs.Truth.{clash, false_of, and_intro, and_left, and_right, or_left, or_right, or_cases, same_test, or_none, and_all}
use Rattle.finite.proofs.Bounded.{all_elim, least_le, least_member, least_before, least_unique, least_below, count_same, count_add}
use borrow.Author.Tests.{eqb-true, eq-eqb, ne_eqb, lt-ltb, le-ltb}
use Rattle.bits.specs.Member.{has, within, implies, subset, sets_meet}
use Rattle.bits.proofs.Membership.{has_zero_lem, has_block_low, has_block_high, has_past, has_within, within_has, ext}
use Rattle.bits.proofs.Compare.{nonzero_below, nonzero_member, subset_intro, meets_intro, meets_elim}
use Rattle.sets.specs.Words.{value}

pub data Words (w : ℕ) : List ℕ → Type 0 where
  none : Words w []
  more : {x : ℕ} {l : List ℕ} → x < 2 ^ w → Words w l → Words w (x ∷ l)

pub data Linked (w : ℕ) (f : Bool → Bool → Bool) : List ℕ → List ℕ → List ℕ → Type 0 where
  none : Linked w f [] [] []
  more : {r x y : ℕ} {c a b : List ℕ} → r < 2 ^ w → x < 2 ^ w → y < 2 ^ w → ((s : ℕ) → has r s ≡ f (has x s) (has y s)) → Linked w f c a b
      → Linked w f (r ∷ c) (x ∷ a) (y ∷ b)

-- a state is one of the first word, or one of the words after it
first_or_later : (w s : ℕ) → (s < w) ⊎ ((t : ℕ) × (s ≡ w + t))
first_or_later w s = elim (dec_lt s w) [ yes l ↦ inl l | no l ↦ inr (s - w, omega arith) ]

-- a test of two states that are both of later words
pub moved_eqb : (w t s : ℕ) → eqb (w + t) (w + s) ≡ eqb t s
moved_eqb w t s = elim (ℕ_discrete t s) [
  | yes e ↦ eq-eqb (w + t) (w + s) (omega arith) ∙ sym (eq-eqb t s e)
  | no n ↦ ne_eqb (w + t) (w + s) (λ e. n (omega arith)) ∙ sym (ne_eqb t s n)
]

pub moved_ltb : (w t n : ℕ) → ltb t n ≡ ltb (w + t) (w + n)
moved_ltb w t n = elim (dec_lt t n) [
  | yes l ↦ lt-ltb t n l ∙ sym (lt-ltb (w + t) (w + n) (omega arith))
  | no l ↦ le-ltb t n (omega arith) ∙ sym (le-ltb (w + t) (w + n) (omega arith))
]

pub subset_at : (n x y : ℕ) → subset n x y ≡ true → (s : ℕ) → s < n → has x s ≡ true → has y s ≡ true
unfolding subset implies
subset_at n x y e s l m = rw m at (all_elim n (implies x y) e s l)

module _ (w : ℕ) where
  pub has_first : (x : ℕ) (l : List ℕ) (s : ℕ) → s < w → has (value w (x ∷ l)) s ≡ has x s
  unfolding value
  has_first x l s h = has_block_low w (value w l) x s h

  pub has_later : (x : ℕ) (l : List ℕ) (s : ℕ) → x < 2 ^ w → has (value w (x ∷ l)) (w + s) ≡ has (value w l) s
  unfolding value
  has_later x l s h = has_block_high w (value w l) x s h

  has_none : (s : ℕ) → has (value w []) s ≡ false
  unfolding value
  has_none s = has_zero_lem s

  pub value_lt : (l : List ℕ) → Words w l → value w l < 2 ^ (length l * w)
  unfolding value
  value_lt [] none = pow_pos (0 * w)
  value_lt (x ∷ l) (more b r) =
      rw (suc-mul (length l) w, pow-add 2 (length l * w) w) (digits_lt (value_lt l r) b)

  pub linked : {f : Bool → Bool → Bool} {c a b : List ℕ} → Linked w f c a b → f false false ≡ false
      → (s : ℕ) → has (value w c) s ≡ f (has (value w a) s) (has (value w b) s)
  linked none z s = has_none s ∙ sym (rw has_none z)
  linked {f} (more {r} {x} {y} {c} {a} {b} hr hx hy h rest) z s = go (first_or_later w s) (linked rest z)
    where
      go : (s < w) ⊎ ((t : ℕ) × (s ≡ w + t)) → ((t : ℕ) → has (value w c) t ≡ f (has (value w a) t) (has (value w b) t))
          → has (value w (r ∷ c)) s ≡ f (has (value w (x ∷ a)) s) (has (value w (y ∷ b)) s)
      go (inl l) ih = has_first r c s l ∙ h s ∙ sym (ap₂ f (has_first x a s l) (has_first y b s l))
      go (inr (t, e)) ih = rw e (has_later r c t hr ∙ ih t ∙ sym (ap₂ f (has_later x a t hx) (has_later y b t hy)))

  -- a set told word by word
  pub has_words : (r : ℕ) (c : List ℕ) (p : ℕ → Bool) → r < 2 ^ w → ((t : ℕ) → t < w → has r t ≡ p t) → ((t : ℕ) → has (value w c) t ≡ p (w + t))
      → (t : ℕ) → has (value w (r ∷ c)) t ≡ p t
  has_words r c p h f g t =
      elim (first_or_later w t) [
        | inl l ↦ has_first r c t l ∙ f t l
        | inr (k, e) ↦ rw e (has_later r c k h ∙ g k)
      ]

  -- a member more, in the first word
  pub insert_first : (x r s : ℕ) (l : List ℕ) → x < 2 ^ w → r < 2 ^ w → s < w → ((t : ℕ) → has r t ≡ (has x t || eqb t s))
      → (t : ℕ) → has (value w (r ∷ l)) t ≡ (has (value w (x ∷ l)) t || eqb t s)
  insert_first x r s l h g b f =
      has_words r l (λ t. has (value w (x ∷ l)) t || eqb t s) g (λ t c. f t ∙ rw (has_first x l t c) refl)
      (λ t. rw (has_later x l t h, ne_eqb (w + t) s (λ e. omega arith)) (sym (or_none (has (value w l) t) refl)))

  -- in a later one: l has become m
  pub insert_later : (x s : ℕ) (l m : List ℕ) → x < 2 ^ w → ((t : ℕ) → has (value w m) t ≡ (has (value w l) t || eqb t s))
      → (t : ℕ) → has (value w (x ∷ m)) t ≡ (has (value w (x ∷ l)) t || eqb t (w + s))
  insert_later x s l m h f =
      has_words x m (λ t. has (value w (x ∷ l)) t || eqb t (w + s)) h
      (λ t c. rw (has_first x l t c, ne_eqb t (w + s) (λ e. omega arith)) (sym (or_none (has x t) refl)))
      (λ t. f t ∙ rw (has_later x l t h, moved_eqb w t s) refl)

  -- the states below n, in the first word and in those after it
  pub below_first : (n x : ℕ) (l : List ℕ) → x < 2 ^ w → n ≤ w → ((t : ℕ) → has x t ≡ ltb t n) → value w l ≡ 0
      → (t : ℕ) → has (value w (x ∷ l)) t ≡ ltb t n
  below_first n x l h b f z =
      has_words x l (λ t. ltb t n) h (λ t c. f t)
      (λ t. ap (λ (y : ℕ). has y t) z ∙ has_zero_lem t ∙ sym (le-ltb (w + t) n (omega arith)))

  pub below_later : (n x : ℕ) (l : List ℕ) → x < 2 ^ w → ((t : ℕ) → t < w → has x t ≡ true) → ((t : ℕ) → has (value w l) t ≡ ltb t n)
      → (t : ℕ) → has (value w (x ∷ l)) t ≡ ltb t (w + n)
  below_later n x l h f g =
      has_words x l (λ t. ltb t (w + n)) h (λ t c. f t c ∙ sym (lt-ltb t (w + n) (omega arith))) (λ t. g t ∙ moved_ltb w t n)

  -- sets that are the same have the same first word and the same later ones
  module _ (x y : ℕ) (a b : List ℕ) (h : x < 2 ^ w) (g : y < 2 ^ w) where
    first_same : value w (x ∷ a) ≡ value w (y ∷ b) → x ≡ y
    first_same q = ext x y (λ t. go t (dec_lt t w))
      where
        go : (t : ℕ) → Dec (t < w) → has x t ≡ has y t
        go t (yes c) = sym (has_first x a t c) ∙ ap (λ (n : ℕ). has n t) q ∙ has_first y b t c
        go t (no c) = has_past w x t h (omega arith) ∙ sym (has_past w y t g (omega arith))

    later_same : value w (x ∷ a) ≡ value w (y ∷ b) → value w a ≡ value w b
    later_same q = ext (value w a) (value w b) (λ t. sym (has_later x a t h) ∙ ap (λ (n : ℕ). has n (w + t)) q ∙ has_later y b t g)

    -- the test of equality, word after word
    pub same_words : eqb (value w (x ∷ a)) (value w (y ∷ b)) ≡ (eqb x y && eqb (value w a) (value w b))
    unfolding value
    same_words = same_test (eqb (value w (x ∷ a)) (value w (y ∷ b))) (eqb x y && eqb (value w a) (value w b)) to back
      where
        to : eqb (value w (x ∷ a)) (value w (y ∷ b)) ≡ true → (eqb x y && eqb (value w a) (value w b)) ≡ true
        to q =
            let z = eqb-true (value w (x ∷ a)) (value w (y ∷ b)) q in
            and_intro (eq-eqb x y (first_same z)) (eq-eqb (value w a) (value w b) (later_same z))

        back : (eqb x y && eqb (value w a) (value w b)) ≡ true → eqb (value w (x ∷ a)) (value w (y ∷ b)) ≡ true
        back e =
            eq-eqb (value w (x ∷ a)) (value w (y ∷ b))
            (ap₂ (λ (m n : ℕ). n * 2 ^ w + m) (eqb-true x y (and_left (eqb x y) (eqb (value w a) (value w b)) e))
            (eqb-true (value w a) (value w b) (and_right (eqb x y) (eqb (value w a) (value w b)) e)))

  -- words that hold the same set are the same
  pub words_same : (a b : List ℕ) → Words w a → Words w b → length a ≡ length b → value w a ≡ value w b → a ≡ b
  words_same [] [] none none e q = refl
  words_same [] (y ∷ b) none (more h s) e q = absurd (omega arith)
  words_same (x ∷ a) [] (more h r) none e q = absurd (omega arith)
  words_same (x ∷ a) (y ∷ b) (more h r) (more g s) e q =
      ap₂ (λ (k : ℕ) (n : List ℕ). k ∷ n) (first_same x y a b h g q) (words_same a b r s (omega arith) (later_same x y a b h g q))

  pub empty_words : (x : ℕ) (l : List ℕ) → x < 2 ^ w → eqb (value w (x ∷ l)) 0 ≡ (eqb x 0 && eqb (value w l) 0)
  empty_words x l h = same_test (eqb (value w (x ∷ l)) 0) (eqb x 0 && eqb (value w l) 0) to back
    where
      none_in : (y : ℕ) → ((s : ℕ) → has y s ≡ false) → eqb y 0 ≡ true
      none_in y f = eq-eqb y 0 (ext y 0 (λ s. f s ∙ sym (has_zero_lem s)))

      zero_has : (y s : ℕ) → eqb y 0 ≡ true → has y s ≡ false
      zero_has y s e = ap (λ (n : ℕ). has n s) (eqb-true y 0 e) ∙ has_zero_lem s

      to : eqb (value w (x ∷ l)) 0 ≡ true → (eqb x 0 && eqb (value w l) 0) ≡ true
      to e =
          and_intro
          (none_in x (λ s. elim (dec_lt s w) [
            | yes b ↦ sym (has_first x l s b) ∙ zero_has (value w (x ∷ l)) s e
            | no b ↦ has_past w x s h (omega arith)
          ]))
          (none_in (value w l) (λ s. sym (has_later x l s h) ∙ zero_has (value w (x ∷ l)) (w + s) e))

      back : (eqb x 0 && eqb (value w l) 0) ≡ true → eqb (value w (x ∷ l)) 0 ≡ true
      back e =
          none_in (value w (x ∷ l))
          (has_words x l (λ _. false) h (λ t b. zero_has x t (and_left (eqb x 0) (eqb (value w l) 0) e))
          (λ t. zero_has (value w l) t (and_right (eqb x 0) (eqb (value w l) 0) e)))

  pub within_later : (n x : ℕ) (l : List ℕ) → x < 2 ^ w → within (value w (x ∷ l)) (w + n) ≡ within (value w l) n
  within_later n x l h =
      same_test (within (value w (x ∷ l)) (w + n)) (within (value w l) n)
      (λ e. has_within (value w l) n (λ s m. omega (arith, within_has (value w (x ∷ l)) (w + n) (w + s) e (has_later x l s h ∙ m))))
      (λ e. has_within (value w (x ∷ l)) (w + n) (λ s m. elim (first_or_later w s) [
        | inl b ↦ omega arith
        | inr (t, q) ↦ omega (arith, within_has (value w l) n t e (sym (has_later x l t h) ∙ (rw q at m)))
      ]))

  pub within_first : (n x : ℕ) (l : List ℕ) → x < 2 ^ w → n ≤ w → value w l ≡ 0 → within (value w (x ∷ l)) n ≡ within x n
  within_first n x l h b z =
      same_test (within (value w (x ∷ l)) n) (within x n)
      (λ e. has_within x n (λ s m. elim (dec_lt s w) [
        | yes c ↦ within_has (value w (x ∷ l)) n s e (has_first x l s c ∙ m)
        | no c ↦ clash m (has_past w x s h (omega arith))
      ]))
      (λ e. has_within (value w (x ∷ l)) n (λ s m. elim (first_or_later w s) [
        | inl c ↦ within_has x n s e (sym (has_first x l s c) ∙ m)
        | inr (t, q) ↦ clash (sym (has_later x l t h) ∙ (rw q at m)) (ap (λ (y : ℕ). has y t) z ∙ has_zero_lem t)
      ]))

  pub within_not : (n x : ℕ) (l : List ℕ) → x < 2 ^ w → n ≤ w → value w l ≢ 0 → within (value w (x ∷ l)) n ≡ false
  within_not n x l h b ne =
      false_of (within (value w (x ∷ l)) n)
      (λ e. let m = nonzero_member (value w l) ne in omega (arith, within_has (value w (x ∷ l)) n (w + m.0) e (has_later x l m.0 h ∙ m.1)))

  -- the lowest member is that of the first word that has one
  pub least_first : (n x : ℕ) (l : List ℕ) → x < 2 ^ w → x ≢ 0 → least (w + n) (has (value w (x ∷ l))) ≡ least w (has x)
  least_first n x l h ne =
      let m = nonzero_below w x h ne in
      let b = least_below w (has x) m.0 m.1 m.2 in
      least_unique (w + n) (has (value w (x ∷ l))) (least w (has x)) (omega arith) (has_first x l (least w (has x)) b ∙ least_member w (has x) b)
      (λ j c. has_first x l j (omega arith) ∙ least_before w (has x) j c)

  pub least_later : (n x : ℕ) (l : List ℕ) → x < 2 ^ w → x ≡ 0 → least (w + n) (has (value w (x ∷ l))) ≡ w + least n (has (value w l))
  least_later n x l h z = go (dec_lt (least n (has (value w l))) n)
    where
      k : ℕ
      k = least n (has (value w l))

      before : (j : ℕ) → j < w + least n (has (value w l)) → has (value w (x ∷ l)) j ≡ false
      before j b =
          elim (first_or_later w j) [
            | inl c ↦ has_first x l j c ∙ ap (λ (y : ℕ). has y j) z ∙ has_zero_lem j
            | inr (t, e) ↦ rw e (has_later x l t h ∙ least_before n (has (value w l)) t (omega arith))
          ]

      go : Dec (least n (has (value w l)) < n) → least (w + n) (has (value w (x ∷ l))) ≡ w + least n (has (value w l))
      go (yes b) =
          least_unique (w + n) (has (value w (x ∷ l))) (w + least n (has (value w l))) (omega arith)
          (has_later x l (least n (has (value w l))) h ∙ least_member n (has (value w l)) b) before
      go (no b) =
          let i = least (w + n) (has (value w (x ∷ l))) in
          elim (dec_lt i (w + n)) [
            | yes c ↦ clash (least_member (w + n) (has (value w (x ∷ l))) c) (before i (omega (arith, least_le n (has (value w l)))))
            | no c ↦ omega (arith, least_le (w + n) (has (value w (x ∷ l))), least_le n (has (value w l)))
          ]

  -- a member less, the lowest, of the first word that has one
  pub strip_first : (n x r : ℕ) (l : List ℕ) → x < 2 ^ w → r < 2 ^ w → x ≢ 0 → ((t : ℕ) → has r t ≡ (has x t && not (eqb t (least w (has x)))))
      → (t : ℕ) → has (value w (r ∷ l)) t ≡ (has (value w (x ∷ l)) t && not (eqb t (least (w + n) (has (value w (x ∷ l))))))
  strip_first n x r l h g ne f =
      let m = nonzero_below w x h ne in
      let b = least_below w (has x) m.0 m.1 m.2 in
      rw (least_first n x l h ne)
      (has_words r l (λ t. has (value w (x ∷ l)) t && not (eqb t (least w (has x)))) g (λ t c. f t ∙ rw (has_first x l t c) refl)
      (λ t. rw (has_later x l t h, ne_eqb (w + t) (least w (has x)) (λ e. omega arith)) (sym (and_all (has (value w l) t) refl))))

  pub strip_later : (n x : ℕ) (l m : List ℕ) → x < 2 ^ w → x ≡ 0
      → ((t : ℕ) → has (value w m) t ≡ (has (value w l) t && not (eqb t (least n (has (value w l))))))
      → (t : ℕ) → has (value w (x ∷ m)) t ≡ (has (value w (x ∷ l)) t && not (eqb t (least (w + n) (has (value w (x ∷ l))))))
  strip_later n x l m h z f =
      rw (least_later n x l h z)
      (has_words x m (λ t. has (value w (x ∷ l)) t && not (eqb t (w + least n (has (value w l))))) h
      (λ t c. rw (has_first x l t c, z, has_zero_lem) refl)
      (λ t. f t ∙ rw (has_later x l t h, moved_eqb w t (least n (has (value w l)))) refl))

  -- counts and tests, over w + n states

  pub count_words : (n x : ℕ) (l : List ℕ) → x < 2 ^ w → count (w + n) (has (value w (x ∷ l))) ≡ count w (has x) + count n (has (value w l))
  count_words n x l h =
      count_add w n (has (value w (x ∷ l)))
      ∙ ap₂ (λ (a b : ℕ). a + b) (count_same w (has (value w (x ∷ l))) (has x) (λ s b. has_first x l s b))
      (count_same n (λ j. has (value w (x ∷ l)) (w + j)) (has (value w l)) (λ s b. has_later x l s h))

  module _ (n x y : ℕ) (a b : List ℕ) (h : x < 2 ^ w) (g : y < 2 ^ w) where
    pub subset_words : subset (w + n) (value w (x ∷ a)) (value w (y ∷ b)) ≡ (subset w x y && subset n (value w a) (value w b))
    subset_words = same_test (subset (w + n) (value w (x ∷ a)) (value w (y ∷ b))) (subset w x y && subset n (value w a) (value w b)) to back
      where
        to : subset (w + n) (value w (x ∷ a)) (value w (y ∷ b)) ≡ true → (subset w x y && subset n (value w a) (value w b)) ≡ true
        to e =
            and_intro
            (subset_intro w x y (λ s l m. sym (has_first y b s l)
            ∙ subset_at (w + n) (value w (x ∷ a)) (value w (y ∷ b)) e s (omega arith) (has_first x a s l ∙ m)))
            (subset_intro n (value w a) (value w b) (λ s l m. sym (has_later y b s g)
            ∙ subset_at (w + n) (value w (x ∷ a)) (value w (y ∷ b)) e (w + s) (omega arith) (has_later x a s h ∙ m)))

        back : (subset w x y && subset n (value w a) (value w b)) ≡ true → subset (w + n) (value w (x ∷ a)) (value w (y ∷ b)) ≡ true
        back e = subset_intro (w + n) (value w (x ∷ a)) (value w (y ∷ b)) (λ s l m. go s l m (first_or_later w s))
          where
            go : (s : ℕ) → s < w + n → has (value w (x ∷ a)) s ≡ true → (s < w) ⊎ ((t : ℕ) × (s ≡ w + t)) → has (value w (y ∷ b)) s ≡ true
            go s l m (inl c) =
                has_first y b s c ∙ subset_at w x y (and_left (subset w x y) (subset n (value w a) (value w b)) e) s c (sym (has_first x a s c) ∙ m)
            go s l m (inr (t, q)) =
                rw q
                (has_later y b t g
                ∙ subset_at n (value w a) (value w b) (and_right (subset w x y) (subset n (value w a) (value w b)) e) t (omega arith)
                (sym (has_later x a t h) ∙ (rw q at m)))

    pub meets_words : sets_meet (w + n) (value w (x ∷ a)) (value w (y ∷ b)) ≡ (sets_meet w x y || sets_meet n (value w a) (value w b))
    meets_words = same_test (sets_meet (w + n) (value w (x ∷ a)) (value w (y ∷ b))) (sets_meet w x y || sets_meet n (value w a) (value w b)) to back
      where
        to : sets_meet (w + n) (value w (x ∷ a)) (value w (y ∷ b)) ≡ true → (sets_meet w x y || sets_meet n (value w a) (value w b)) ≡ true
        to e =
            let m = meets_elim (w + n) (value w (x ∷ a)) (value w (y ∷ b)) e in
            go m.0 m.1 m.2 m.3 (first_or_later w m.0)
          where
            go : (s : ℕ) → s < w + n → has (value w (x ∷ a)) s ≡ true → has (value w (y ∷ b)) s ≡ true → (s < w) ⊎ ((t : ℕ) × (s ≡ w + t))
                → (sets_meet w x y || sets_meet n (value w a) (value w b)) ≡ true
            go s l m q (inl c) = or_left (sets_meet n (value w a) (value w b))
                (meets_intro w x y s c (sym (has_first x a s c) ∙ m) (sym (has_first y b s c) ∙ q))
            go s l m q (inr (t, z)) =
                or_right (sets_meet w x y)
                (meets_intro n (value w a) (value w b) t (omega arith) (sym (has_later x a t h) ∙ (rw z at m)) (sym (has_later y b t g) ∙ (rw z at q)))

        back : (sets_meet w x y || sets_meet n (value w a) (value w b)) ≡ true → sets_meet (w + n) (value w (x ∷ a)) (value w (y ∷ b)) ≡ true
        back e = elim (or_cases (sets_meet w x y) (sets_meet n (value w a) (value w b)) e) [
          | inl q ↦ let m = meets_elim w x y q in
              meets_intro (w + n) (value w (x ∷ a)) (value w (y ∷ b)) m.0 (omega (arith, m.1)) (has_first x a m.0 m.1 ∙ m.2)
              (has_first y b m.0 m.1 ∙ m.3)
          | inr q ↦ let m = meets_elim n (value w a) (value w b) q in
              meets_intro (w + n) (value w (x ∷ a)) (value w (y ∷ b)) (w + m.0) (omega (arith, m.1)) (has_later x a m.0 h ∙ m.2)
              (has_later y b m.0 g ∙ m.3)
        ]
