-- Laws of `has`, for any state and any width.
use mathlib.Core.Path.{◌≡◌, refl, sym, ap, ap₂, ◌∙◌, subst}
use mathlib.Core.Logic.{◌⊎◌, inl, inr}
use mathlib.Core.Bool.{Bool, true, false, not, ◌&&◌, ◌||◌, true≢false, false≢true}
use Prim.Native.Nat.{ℕ, zero, suc, ◌+◌, ◌-◌, ◌*◌, ◌/◌, ◌%◌, ◌^◌, ◌≤◌, ◌<◌, suc-le-suc}
use native.Mathlib.Nat.{
  pow-suc,
  add-zero,
  div-one,
  zero-div,
  mul_comm,
  one-mul,
  mod-lt,
  div-lt_iff_lt-mul,
  div-eq_of_lt,
  div-add-mod',
  lt_of_lt_of_le,
  le_of_suc-le-suc,
  le_refl,
  zero-lt-suc,
  not-suc-le-zero,
}
use native.Mathlib.Numerals.{add-one, one-add}
use native.Mathlib.Decide.{dec_lt, ℕ_discrete}
use native.Mathlib.Omega.{arith}
use lib.Dec.{eqb, ltb}
use lib.Arith.{bin_ind, digits_lt}
use lib.Bits.{bit_and, bit_or, bit_xor, and_shr, or_shr, xor_shr, and_mod, or_mod, xor_mod, block_half, block_odd}
use lib.Pow.{pow_pos, pow_mono, shl_exact, shr-shr, shr_lt, split, high, ones_split, ones_lt}
use borrow.Author.Tests.{eqb-true, lt-ltb, le-ltb, eq-eqb, ne_eqb}
use Rattle.finite.specs.Bounded.{one}
use Rattle.finite.proofs.Truth.{decide, same_test}
use Rattle.bits.specs.Member.{has, within, pack}

two_pos : zero < 2
two_pos = zero-lt-suc 1

-- ---- one digit at a time

pub has_low : (x : ℕ) → has x zero ≡ eqb (x % 2) 1
unfolding has
has_low x = ap (λ (n : ℕ). eqb (n % 2) 1) (div-one x)

pub has_suc : (x s : ℕ) → has x (suc s) ≡ has (x / 2) s
unfolding has
has_suc x s =
    ap (λ (n : ℕ). eqb (n % 2) 1) (ap (λ (k : ℕ). x / 2 ^ k) (sym (one-add s)) ∙ sym (shr-shr x 1 s))

pub has_zero_lem : (s : ℕ) → has zero s ≡ false
unfolding has
has_zero_lem s = ap (λ (n : ℕ). eqb (n % 2) 1) (zero-div (2 ^ s))

-- a digit is 0 or 1
pub digit : (n : ℕ) → (n % 2 ≡ 0) ⊎ (n % 2 ≡ 1)
digit n = go (n % 2) (mod-lt n two_pos)
  where
    go : (d : ℕ) → d < 2 → (d ≡ 0) ⊎ (d ≡ 1)
    go zero h = inl refl
    go (suc zero) h = inr refl
    go (suc (suc d)) h = absurd (not-suc-le-zero (le_of_suc-le-suc (le_of_suc-le-suc h)))

-- ---- the operations on words

-- two digits under an operation that a table of four lines gives
module _ (op : ℕ → ℕ → ℕ) (f : Bool → Bool → Bool)
    (shr : (a b k : ℕ) → op a b / 2 ^ k ≡ op (a / 2 ^ k) (b / 2 ^ k))
    (low : (a b k : ℕ) → op a b % 2 ^ k ≡ op (a % 2 ^ k) (b % 2 ^ k))
    (e00 : eqb (op 0 0) 1 ≡ f false false) (e01 : eqb (op 0 1) 1 ≡ f false true)
    (e10 : eqb (op 1 0) 1 ≡ f true false) (e11 : eqb (op 1 1) 1 ≡ f true true) where
  table : {a b : ℕ} → (a ≡ 0) ⊎ (a ≡ 1) → (b ≡ 0) ⊎ (b ≡ 1) → eqb (op a b) 1 ≡ f (eqb a 1) (eqb b 1)
  table (inl p) (inl q) = rw (p, q) e00
  table (inl p) (inr q) = rw (p, q) e01
  table (inr p) (inl q) = rw (p, q) e10
  table (inr p) (inr q) = rw (p, q) e11

  has_op : (x y s : ℕ) → has (op x y) s ≡ f (has x s) (has y s)
  unfolding has
  has_op x y s =
      ap (λ (n : ℕ). eqb (n % 2) 1) (shr x y s) ∙ ap (λ (n : ℕ). eqb n 1) (low (x / 2 ^ s) (y / 2 ^ s) 1)
      ∙ table (digit (x / 2 ^ s)) (digit (y / 2 ^ s))

pub has_or : (x y s : ℕ) → has (bit_or x y) s ≡ (has x s || has y s)
has_or = has_op bit_or (λ a b. a || b) or_shr or_mod refl refl refl refl

pub has_and : (x y s : ℕ) → has (bit_and x y) s ≡ (has x s && has y s)
has_and = has_op bit_and (λ a b. a && b) and_shr and_mod refl refl refl refl

-- the members of x that are none of y's: `x ^ (x & y)`
pub has_minus : (x y s : ℕ) → has (bit_xor x (bit_and x y)) s ≡ (has x s && not (has y s))
has_minus x y s =
    has_op bit_xor differs xor_shr xor_mod refl refl refl refl x (bit_and x y) s
    ∙ ap (differs (has x s)) (has_and x y s) ∙ clears (has x s) (has y s)
  where
    differs : Bool → Bool → Bool
    differs a b = (a && not b) || (not a && b)

    clears : (a b : Bool) → differs a (a && b) ≡ (a && not b)
    clears true true = refl
    clears true false = refl
    clears false b = refl

-- ---- a number as a high part and w low digits

half_lt : {r : ℕ} (w : ℕ) → r < 2 ^ suc w → r / 2 < 2 ^ w
half_lt {r} w h = shr_lt w 1 (subst (λ (k : ℕ). r < 2 ^ k) (sym (add-one w)) h)

pub has_block_low : (w a r s : ℕ) → s < w → has (a * 2 ^ w + r) s ≡ has r s
has_block_low zero a r s l = absurd (not-suc-le-zero l)
has_block_low (suc w) a r zero l =
    has_low (a * 2 ^ suc w + r) ∙ ap (λ (n : ℕ). eqb n 1) (block_odd a w r) ∙ sym (has_low r)
has_block_low (suc w) a r (suc s) l =
    has_suc (a * 2 ^ suc w + r) s ∙ ap (λ (n : ℕ). has n s) (block_half a w r)
    ∙ has_block_low w a (r / 2) s (le_of_suc-le-suc l) ∙ sym (has_suc r s)

pub has_block_high : (w a r s : ℕ) → r < 2 ^ w → has (a * 2 ^ w + r) (w + s) ≡ has a s
unfolding has
has_block_high w a r s h =
    ap (λ (n : ℕ). eqb (n % 2) 1)
    (sym (shr-shr (a * 2 ^ w + r) w s) ∙ ap (λ (n : ℕ). n / 2 ^ s) (high a w h))

-- ---- past the width

pub has_past : (w x s : ℕ) → x < 2 ^ w → w ≤ s → has x s ≡ false
unfolding has
has_past w x s h l =
    ap (λ (n : ℕ). eqb (n % 2) 1) (div-eq_of_lt (lt_of_lt_of_le h (pow_mono l)))

pub has_lt : (w x s : ℕ) → x < 2 ^ w → has x s ≡ true → s < w
has_lt w x s h m = go (dec_lt s w)
  where
    go : Dec (s < w) → s < w
    go (yes l) = l
    go (no n) = absurd (true≢false (sym m ∙ has_past w x s h (omega arith)))

pub within_lt : (x n : ℕ) → within x n ≡ true → x < 2 ^ n
unfolding within
within_lt x n e =
    let none : x / 2 ^ n < 1 = rw (eqb-true (x / 2 ^ n) 0 e) (zero-lt-suc zero) in
    rw one-mul at ((div-lt_iff_lt-mul (pow_pos n)).0 none)

pub lt_within : (x n : ℕ) → x < 2 ^ n → within x n ≡ true
unfolding within
lt_within x n h = eq-eqb (x / 2 ^ n) 0 (div-eq_of_lt h)

pub within_has : (x n s : ℕ) → within x n ≡ true → has x s ≡ true → s < n
within_has x n s e m = has_lt n x s (within_lt x n e) m

-- ---- a set is its members

none_zero : (x : ℕ) → ((s : ℕ) → has x s ≡ false) → x ≡ zero
none_zero =
    bin_ind (λ (x : ℕ). ((s : ℕ) → has x s ≡ false) → x ≡ zero) (λ h. refl)
    (λ x ih h.
    let high_none : x / 2 ≡ zero = ih (λ s. sym (has_suc x s) ∙ h (suc s)) in
    let low_none : x % 2 ≡ zero = elim (digit x) [ inl e ↦ e | inr e ↦ absurd (true≢false (rw e at (sym (has_low x)) ∙ h zero)) ] in
    sym (div-add-mod' x 2) ∙ rw (high_none, low_none))

pub ext : (x y : ℕ) → ((s : ℕ) → has x s ≡ has y s) → x ≡ y
ext =
    bin_ind (λ (x : ℕ). (y : ℕ) → ((s : ℕ) → has x s ≡ has y s) → x ≡ y)
    (λ y h. sym (none_zero y (λ s. sym (h s) ∙ has_zero_lem s)))
    (λ x ih y h.
    sym (div-add-mod' x 2)
    ∙ ap₂ (λ (a b : ℕ). a * 2 + b)
    (ih (y / 2) (λ s. sym (has_suc x s) ∙ h (suc s) ∙ has_suc y s))
    (same (digit x) (digit y) (sym (has_low x) ∙ h zero ∙ has_low y))
    ∙ div-add-mod' y 2)
  where
    same : {a b : ℕ} → (a ≡ 0) ⊎ (a ≡ 1) → (b ≡ 0) ⊎ (b ≡ 1) → eqb a 1 ≡ eqb b 1 → a ≡ b
    same (inl p) (inl q) e = cc
    same (inl p) (inr q) e = absurd (false≢true (rw (p, q) at e))
    same (inr p) (inl q) e = absurd (true≢false (rw (p, q) at e))
    same (inr p) (inr q) e = cc

-- members all below n
pub has_within : (x n : ℕ) → ((s : ℕ) → has x s ≡ true → s < n) → within x n ≡ true
unfolding within
has_within x n h = eq-eqb (x / 2 ^ n) 0 (none_zero (x / 2 ^ n) (λ s. none s (decide (has (x / 2 ^ n) s))))
  where
    at : (s : ℕ) → has x (n + s) ≡ has (x / 2 ^ n) s
    at s =
        ap (λ (m : ℕ). has m (n + s)) (sym (split x n))
        ∙ has_block_high n (x / 2 ^ n) (x % 2 ^ n) s (mod-lt x (pow_pos n))

    none : (s : ℕ) → (has (x / 2 ^ n) s ≡ true) ⊎ (has (x / 2 ^ n) s ≡ false) → has (x / 2 ^ n) s ≡ false
    none s (inl m) = let l = h (n + s) (at s ∙ m) in absurd (omega arith)
    none s (inr e) = e

pub within_zero : (x : ℕ) → within x 0 ≡ true → x ≡ 0
within_zero x e = omega (arith, within_lt x 0 e)

pub zero_within : (n : ℕ) → within 0 n ≡ true
zero_within n = lt_within 0 n (pow_pos n)

-- ---- the set of one state, and the set of all below n

pub has_single : (t s : ℕ) → has (2 ^ t) s ≡ eqb s t
has_single t s = go (dec_lt s t) (ℕ_discrete s t)
  where
    as_block : 2 ^ t ≡ 1 * 2 ^ t + 0
    as_block = sym (add-zero (1 * 2 ^ t) ∙ one-mul (2 ^ t))

    later : (k : ℕ) → has 1 (suc k) ≡ false
    later k = has_suc 1 k ∙ has_zero_lem k

    go : Dec (s < t) → Dec (s ≡ t) → has (2 ^ t) s ≡ eqb s t
    go (yes l) d =
        ap (λ (n : ℕ). has n s) as_block ∙ has_block_low t 1 0 s l ∙ has_zero_lem s
        ∙ sym (ne_eqb s t (λ e. omega arith))
    go (no n) (yes e) =
        ap₂ has as_block (e ∙ sym (add-zero t)) ∙ has_block_high t 1 0 0 (pow_pos t) ∙ has_low 1 ∙ sym (eq-eqb s t e)
    go (no n) (no ne) =
        let past : s ≡ t + suc (s - suc t) = omega arith in
        ap₂ has as_block past ∙ has_block_high t 1 0 (suc (s - suc t)) (pow_pos t) ∙ later (s - suc t)
        ∙ sym (ne_eqb s t ne)

pub has_below : (n s : ℕ) → has (2 ^ n - 1) s ≡ ltb s n
has_below n s = go (dec_lt s n)
  where
    odd : (k : ℕ) → has (2 ^ suc k - 1) zero ≡ true
    odd k =
        ap (λ (j : ℕ). has (2 ^ j - 1) zero) (sym (add-one k)) ∙ ap (λ (x : ℕ). has x zero) (ones_split k 1)
        ∙ has_block_low 1 (2 ^ k - 1) 1 zero (zero-lt-suc zero) ∙ has_low 1

    go : Dec (s < n) → has (2 ^ n - 1) s ≡ ltb s n
    go (yes l) =
        let split_at : n ≡ suc (n - suc s) + s = omega arith in
        ap₂ (λ (x t : ℕ). has x t) (ap (λ (k : ℕ). 2 ^ k - 1) split_at ∙ ones_split (suc (n - suc s)) s) (sym (add-zero s))
        ∙ has_block_high s (2 ^ suc (n - suc s) - 1) (2 ^ s - 1) zero (ones_lt s)
        ∙ odd (n - suc s) ∙ sym (lt-ltb s n l)
    go (no g) = has_past n (2 ^ n - 1) s (ones_lt n) (omega arith) ∙ sym (le-ltb s n (omega arith))

-- ---- the set of the states with a property

one_lt : (b : Bool) → one b < 2
unfolding one
one_lt true = suc-le-suc (zero-lt-suc zero)
one_lt false = zero-lt-suc 1

has_one : (b : Bool) → has (one b) zero ≡ b
unfolding one
has_one true = has_low 1
has_one false = has_low 0

pub pack_lt : (n : ℕ) (p : ℕ → Bool) → pack n p < 2 ^ n
unfolding pack
pack_lt zero p = zero-lt-suc zero
pack_lt (suc n) p =
    rw (pow-suc, mul_comm (2 ^ n) 2) (digits_lt (one_lt (p n)) (pack_lt n p))

pub has_pack_below : (n : ℕ) (p : ℕ → Bool) (s : ℕ) → s < n → has (pack n p) s ≡ p s
unfolding pack
has_pack_below zero p s l = absurd (not-suc-le-zero l)
has_pack_below (suc n) p s l = go (dec_lt s n) (has_pack_below n p s)
  where
    go : Dec (s < n) → (s < n → has (pack n p) s ≡ p s) → has (one (p n) * 2 ^ n + pack n p) s ≡ p s
    go (yes k) ih = has_block_low n (one (p n)) (pack n p) s k ∙ ih k
    go (no k) ih =
        let last : s ≡ n = omega arith in
        ap (has (one (p n) * 2 ^ n + pack n p)) (last ∙ sym (add-zero n))
        ∙ has_block_high n (one (p n)) (pack n p) zero (pack_lt n p) ∙ has_one (p n) ∙ ap p (sym last)

pub has_pack_past : (n : ℕ) (p : ℕ → Bool) (s : ℕ) → n ≤ s → has (pack n p) s ≡ false
has_pack_past n p s l = has_past n (pack n p) s (pack_lt n p) l

-- a member of a packed set
pub pack_below : (n : ℕ) (p : ℕ → Bool) (s : ℕ) → has (pack n p) s ≡ true → s < n
pack_below n p s h = has_lt n (pack n p) s (pack_lt n p) h

pub pack_holds : (n : ℕ) (p : ℕ → Bool) (s : ℕ) → has (pack n p) s ≡ true → p s ≡ true
pack_holds n p s h = sym (has_pack_below n p s (pack_below n p s h)) ∙ h

-- a set is its members, past the count too
pub has_pack_all : (n : ℕ) (p : ℕ → Bool) → ((t : ℕ) → p t ≡ true → t < n) → (t : ℕ) → has (pack n p) t ≡ p t
has_pack_all n p b t = same_test (has (pack n p) t) (p t) (pack_holds n p t) (λ e. has_pack_below n p t (b t e) ∙ e)

pub has_pack : (n : ℕ) (p : ℕ → Bool) (s : ℕ) → has (pack n p) s ≡ (ltb s n && p s)
has_pack n p s = go (dec_lt s n)
  where
    go : Dec (s < n) → has (pack n p) s ≡ (ltb s n && p s)
    go (yes l) = rw (lt-ltb s n l) (has_pack_below n p s l)
    go (no g) = rw (le-ltb s n (omega arith)) (has_pack_past n p s (omega arith))

pub pack_ext : (n : ℕ) (p q : ℕ → Bool) → ((k : ℕ) → k < n → p k ≡ q k) → pack n p ≡ pack n q
unfolding pack
pack_ext zero p q h = refl
pack_ext (suc n) p q h =
    ap₂ (λ (b : Bool) (x : ℕ). one b * 2 ^ n + x) (h n (le_refl (suc n))) (pack_ext n p q (λ k l. h k (omega arith)))

pub pack_has : (n x : ℕ) → x < 2 ^ n → pack n (has x) ≡ x
pack_has n x h = ext (pack n (has x)) x (λ s. go s (dec_lt s n))
  where
    go : (s : ℕ) → Dec (s < n) → has (pack n (has x)) s ≡ has x s
    go s (yes l) = has_pack_below n (has x) s l
    go s (no g) = has_pack_past n (has x) s (omega arith) ∙ sym (has_past n x s h (omega arith))

-- ---- words of w bits

-- `1 << s`
shl_one : (w s : ℕ) → s < w → (1 * 2 ^ s) % 2 ^ w ≡ 2 ^ s
shl_one w s l = shl_exact 1 s w (suc-le-suc (zero-lt-suc zero)) (omega arith) ∙ one-mul (2 ^ s)

pub shl_one_pos : (w s : ℕ) → s < w → 1 ≤ (1 * 2 ^ s) % 2 ^ w
shl_one_pos w s l = rw (shl_one w s l) (pow_pos s)

-- `x | (1 << s)`
pub has_insert : (w x s t : ℕ) → s < w → has (bit_or x ((1 * 2 ^ s) % 2 ^ w)) t ≡ (has x t || eqb t s)
has_insert w x s t l =
    has_or x ((1 * 2 ^ s) % 2 ^ w) t
    ∙ ap (λ (b : Bool). has x t || b) (ap (λ (n : ℕ). has n t) (shl_one w s l) ∙ has_single s t)

-- `(1 << n) - 1`
pub has_below_word : (w n s : ℕ) → n < w → has ((1 * 2 ^ n) % 2 ^ w - 1) s ≡ ltb s n
has_below_word w n s l = ap (λ (x : ℕ). has (x - 1) s) (shl_one w n l) ∙ has_below n s

-- a word has no state from its width on
pub within_word : (w x n : ℕ) → x < 2 ^ w → w ≤ n → within x n ≡ true
within_word w x n h l = lt_within x n (lt_of_lt_of_le h (pow_mono l))
