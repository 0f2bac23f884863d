-- Sets of two words of 64 bits: each law is that of Words at its two words.
use Prim.Native.Nat.{ℕ, ◌+◌, ◌-◌, ◌^◌, ◌≤◌, ◌<◌}
use mathlib.Core.Path.{◌≡◌, refl, sym, ◌∙◌, ap, ap₂}
use mathlib.Core.Bool.{Bool, true, false, not, ◌&&◌, ◌||◌}
use mathlib.Core.List.{[], ◌∷◌}
use mathlib.Core.Logic.{◌≢◌}
use native.Mathlib.Omega.{arith}
use native.Mathlib.Decide.{ℕ_discrete}
use lib.Dec.{eqb, ltb}
use lib.Bits.{bit_or}
use borrow.Author.Tests.{eqb-true, eq-eqb, ne_eqb, lt-ltb, le-ltb}
use Rattle.finite.specs.Bounded.{least, count}
use Rattle.finite.proofs.Bounded.{least_below}
use Rattle.bits.proofs.Compare.{nonzero_below, meets_intro, meets_elim}
use Rattle.finite.proofs.Truth.{or_false_left, or_false_right, and_intro, and_left, and_right, same_test}
use Rattle.bits.specs.Member.{has, within, subset, sets_meet}
use Rattle.bits.proofs.Membership.{has_zero_lem, has_or, within_has, ext}
use Rattle.sets.specs.Words.{value}
use Rattle.sets.proofs.Values.{Words, has_first, has_later, value_lt, has_words, empty_words, within_first, within_later, within_not}
use Rattle.sets.proofs.Values.{insert_first, insert_later, strip_first, strip_later, below_first, below_later, same_words}
use Rattle.sets.proofs.Values.{least_first, least_later, count_words, subset_words, meets_words}

-- the high word alone
pub single_word : (y : ℕ) → value 64 (y ∷ []) ≡ y
unfolding value
single_word y = omega arith

pub pair_zero : {x y : ℕ} → x ≡ 0 → y ≡ 0 → value 64 (x ∷ y ∷ []) ≡ 0
unfolding value
pair_zero e f = rw (e, f) refl

or_empty : (x y : ℕ) → eqb (bit_or x y) 0 ≡ (eqb x 0 && eqb y 0)
or_empty x y = same_test (eqb (bit_or x y) 0) (eqb x 0 && eqb y 0) to back
  where
    to : eqb (bit_or x y) 0 ≡ true → (eqb x 0 && eqb y 0) ≡ true
    to e =
        let none : (s : ℕ) → (has x s || has y s) ≡ false = λ s. sym (has_or x y s) ∙ ap (λ (n : ℕ). has n s) (eqb-true (bit_or x y) 0 e) ∙ has_zero_lem s in
        and_intro (eq-eqb x 0 (ext x 0 (λ s. or_false_left (has x s) (has y s) (none s) ∙ sym (has_zero_lem s))))
        (eq-eqb y 0 (ext y 0 (λ s. or_false_right (has x s) (has y s) (none s) ∙ sym (has_zero_lem s))))

    back : (eqb x 0 && eqb y 0) ≡ true → eqb (bit_or x y) 0 ≡ true
    back e = rw (eqb-true x 0 (and_left (eqb x 0) (eqb y 0) e), eqb-true y 0 (and_right (eqb x 0) (eqb y 0) e)) refl

module _ (x y : ℕ) (h : x < 2 ^ 64) where
  pub pair_low : (s : ℕ) → s < 64 → has (value 64 (x ∷ y ∷ [])) s ≡ has x s
  pair_low s l = has_first 64 x (y ∷ []) s l

  pair_high : (s : ℕ) → has (value 64 (x ∷ y ∷ [])) (64 + s) ≡ has y s
  pair_high s = has_later 64 x (y ∷ []) s h ∙ ap (λ (n : ℕ). has n s) (single_word y)

  pub pair_from : (s : ℕ) → 64 ≤ s → has (value 64 (x ∷ y ∷ [])) s ≡ has y (s - 64)
  pair_from s l = let e : s ≡ 64 + (s - 64) = omega arith in ap (has (value 64 (x ∷ y ∷ []))) e ∙ pair_high (s - 64)

  -- a set told by its two words
  pub pair_is : (p : ℕ → Bool) → ((t : ℕ) → t < 64 → has x t ≡ p t) → ((t : ℕ) → has y t ≡ p (64 + t)) → (t : ℕ) → has (value 64 (x ∷ y ∷ [])) t ≡ p t
  pair_is p f g = has_words 64 x (y ∷ []) p h f (λ t. ap (λ (n : ℕ). has n t) (single_word y) ∙ g t)

  -- the states below n
  pub pair_below_low : (n : ℕ) → n ≤ 64 → y ≡ 0 → ((t : ℕ) → has x t ≡ ltb t n) → (t : ℕ) → has (value 64 (x ∷ y ∷ [])) t ≡ ltb t n
  pair_below_low n b z f = below_first 64 n x (y ∷ []) h b f (single_word y ∙ z)

  pub pair_below_high : (n : ℕ) → 64 ≤ n → ((t : ℕ) → t < 64 → has x t ≡ true) → ((t : ℕ) → has y t ≡ ltb t (n - 64))
      → (t : ℕ) → has (value 64 (x ∷ y ∷ [])) t ≡ ltb t n
  pair_below_high n b f g t =
      let e : 64 + (n - 64) ≡ n = omega arith in
      below_later 64 (n - 64) x (y ∷ []) h f (λ u. ap (λ (k : ℕ). has k u) (single_word y) ∙ g u) t ∙ ap (ltb t) e

  pub pair_empty : eqb (bit_or x y) 0 ≡ eqb (value 64 (x ∷ y ∷ [])) 0
  pair_empty = or_empty x y ∙ sym (empty_words 64 x (y ∷ []) h ∙ ap (λ (n : ℕ). eqb x 0 && eqb n 0) (single_word y))

  pub pair_lowest_low : x ≢ 0 → least 64 (has x) ≡ least 128 (has (value 64 (x ∷ y ∷ [])))
  pair_lowest_low n = sym (least_first 64 64 x (y ∷ []) h n)

  pub pair_lowest_high : x ≡ 0 → 64 + least 64 (has y) ≡ least 128 (has (value 64 (x ∷ y ∷ [])))
  pair_lowest_high z = ap (λ (n : ℕ). 64 + least 64 (has n)) (sym (single_word y)) ∙ sym (least_later 64 64 x (y ∷ []) h z)

  low_least : x ≢ 0 → least 64 (has x) < 64
  low_least n = let m = nonzero_below 64 x h n in least_below 64 (has x) m.0 m.1 m.2

  -- the lowest member is of the low word where that has one
  pub low_some : least 128 (has (value 64 (x ∷ y ∷ []))) < 64 → x ≢ 0
  low_some l z = absurd (omega (arith, l, pair_lowest_high z))

  pub low_test : not (eqb x 0) ≡ ltb (least 128 (has (value 64 (x ∷ y ∷ [])))) 64
  low_test = elim (ℕ_discrete x 0) [
    | yes z ↦ ap not (eq-eqb x 0 z) ∙ sym (le-ltb (least 128 (has (value 64 (x ∷ y ∷ [])))) 64 (omega (arith, pair_lowest_high z)))
    | no n ↦ ap not (ne_eqb x 0 n) ∙ sym (lt-ltb (least 128 (has (value 64 (x ∷ y ∷ [])))) 64 (omega (arith, low_least n, pair_lowest_low n)))
  ]

  pub pair_count : count 128 (has (value 64 (x ∷ y ∷ []))) ≡ count 64 (has x) + count 64 (has y)
  pair_count = count_words 64 64 x (y ∷ []) h ∙ ap (λ (n : ℕ). count 64 (has x) + count 64 (has n)) (single_word y)

  pub pair_lt : y < 2 ^ 64 → value 64 (x ∷ y ∷ []) < 2 ^ 128
  pair_lt g = value_lt 64 (x ∷ y ∷ []) (Words.more h (Words.more g Words.none))

  pub pair_within_high : (n : ℕ) → 64 ≤ n → within y (n - 64) ≡ within (value 64 (x ∷ y ∷ [])) n
  pair_within_high n l =
      let e : 64 + (n - 64) ≡ n = omega arith in
      ap (λ (k : ℕ). within k (n - 64)) (sym (single_word y)) ∙ sym (within_later 64 (n - 64) x (y ∷ []) h) ∙ ap (within (value 64 (x ∷ y ∷ []))) e

  pub pair_within_low : (n : ℕ) → n < 64 → y ≡ 0 → within x n ≡ within (value 64 (x ∷ y ∷ [])) n
  pair_within_low n l z = sym (within_first 64 n x (y ∷ []) h (omega arith) (single_word y ∙ z))

  pub pair_within_not : (n : ℕ) → n < 64 → y ≢ 0 → false ≡ within (value 64 (x ∷ y ∷ [])) n
  pair_within_not n l ne = sym (within_not 64 n x (y ∷ []) h (omega arith) (λ z. ne (sym (single_word y) ∙ z)))

  -- a member more in either word
  pub insert_low : (r s : ℕ) → r < 2 ^ 64 → s < 64 → ((t : ℕ) → has r t ≡ (has x t || eqb t s))
      → (t : ℕ) → has (value 64 (r ∷ y ∷ [])) t ≡ (has (value 64 (x ∷ y ∷ [])) t || eqb t s)
  insert_low r s g l f = insert_first 64 x r s (y ∷ []) h g l f

  pub insert_high : (r s : ℕ) → 64 ≤ s → ((t : ℕ) → has r t ≡ (has y t || eqb t (s - 64)))
      → (t : ℕ) → has (value 64 (x ∷ r ∷ [])) t ≡ (has (value 64 (x ∷ y ∷ [])) t || eqb t s)
  insert_high r s l f t =
      let e : 64 + (s - 64) ≡ s = omega arith in
      insert_later 64 x (s - 64) (y ∷ []) (r ∷ []) h (λ u. rw (single_word r, single_word y) (f u)) t
      ∙ ap (λ (k : ℕ). has (value 64 (x ∷ y ∷ [])) t || eqb t k) e

  -- a member less in the first word that has one
  pub strip_low : (r : ℕ) → r < 2 ^ 64 → x ≢ 0 → ((t : ℕ) → has r t ≡ (has x t && not (eqb t (least 64 (has x)))))
      → (t : ℕ) → has (value 64 (r ∷ y ∷ [])) t ≡ (has (value 64 (x ∷ y ∷ [])) t && not (eqb t (least 128 (has (value 64 (x ∷ y ∷ []))))))
  strip_low r g n f = strip_first 64 64 x r (y ∷ []) h g n f

  pub strip_high : (r : ℕ) → x ≡ 0 → ((t : ℕ) → has r t ≡ (has y t && not (eqb t (least 64 (has y)))))
      → (t : ℕ) → has (value 64 (0 ∷ r ∷ [])) t ≡ (has (value 64 (x ∷ y ∷ [])) t && not (eqb t (least 128 (has (value 64 (x ∷ y ∷ []))))))
  strip_high r z f t =
      ap (λ (k : ℕ). has (value 64 (k ∷ r ∷ [])) t) (sym z)
      ∙ strip_later 64 64 x (y ∷ []) (r ∷ []) h z (λ u. rw (single_word r, single_word y) (f u)) t

-- where the second set has members of the low word alone
pub pair_meets_low : (a b x y : ℕ) → within (value 64 (x ∷ y ∷ [])) 64 ≡ true
    → sets_meet 64 a x ≡ sets_meet 128 (value 64 (a ∷ b ∷ [])) (value 64 (x ∷ y ∷ []))
pair_meets_low a b x y e = same_test (sets_meet 64 a x) (sets_meet 128 (value 64 (a ∷ b ∷ [])) (value 64 (x ∷ y ∷ []))) to back
  where
    to : sets_meet 64 a x ≡ true → sets_meet 128 (value 64 (a ∷ b ∷ [])) (value 64 (x ∷ y ∷ [])) ≡ true
    to q =
        let m = meets_elim 64 a x q in
        meets_intro 128 (value 64 (a ∷ b ∷ [])) (value 64 (x ∷ y ∷ [])) m.0 (omega (arith, m.1)) (has_first 64 a (b ∷ []) m.0 m.1 ∙ m.2)
        (has_first 64 x (y ∷ []) m.0 m.1 ∙ m.3)

    back : sets_meet 128 (value 64 (a ∷ b ∷ [])) (value 64 (x ∷ y ∷ [])) ≡ true → sets_meet 64 a x ≡ true
    back q =
        let m = meets_elim 128 (value 64 (a ∷ b ∷ [])) (value 64 (x ∷ y ∷ [])) q in
        let low = within_has (value 64 (x ∷ y ∷ [])) 64 m.0 e m.3 in
        meets_intro 64 a x m.0 low (sym (has_first 64 a (b ∷ []) m.0 low) ∙ m.2) (sym (has_first 64 x (y ∷ []) m.0 low) ∙ m.3)

module _ (a b x y : ℕ) (h : a < 2 ^ 64) (g : x < 2 ^ 64) where
  pub pair_subset : subset 128 (value 64 (a ∷ b ∷ [])) (value 64 (x ∷ y ∷ [])) ≡ (subset 64 a x && subset 64 b y)
  pair_subset = subset_words 64 64 a x (b ∷ []) (y ∷ []) h g ∙ ap₂ (λ (m n : ℕ). subset 64 a x && subset 64 m n) (single_word b) (single_word y)

  pub pair_meets : sets_meet 128 (value 64 (a ∷ b ∷ [])) (value 64 (x ∷ y ∷ [])) ≡ (sets_meet 64 a x || sets_meet 64 b y)
  pair_meets = meets_words 64 64 a x (b ∷ []) (y ∷ []) h g ∙ ap₂ (λ (m n : ℕ). sets_meet 64 a x || sets_meet 64 m n) (single_word b) (single_word y)

  pair_same : eqb (value 64 (a ∷ b ∷ [])) (value 64 (x ∷ y ∷ [])) ≡ (eqb a x && eqb b y)
  pair_same = same_words 64 a x (b ∷ []) (y ∷ []) h g ∙ ap₂ (λ (m n : ℕ). eqb a x && eqb m n) (single_word b) (single_word y)

  pub same_high : a ≡ x → eqb b y ≡ eqb (value 64 (a ∷ b ∷ [])) (value 64 (x ∷ y ∷ []))
  same_high e = ap (λ (v : Bool). v && eqb b y) (sym (eq-eqb a x e)) ∙ sym pair_same

  pub same_low : a ≢ x → false ≡ eqb (value 64 (a ∷ b ∷ [])) (value 64 (x ∷ y ∷ []))
  same_low ne = ap (λ (v : Bool). v && eqb b y) (sym (ne_eqb a x ne)) ∙ sym pair_same
