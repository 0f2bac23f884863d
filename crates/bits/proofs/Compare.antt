-- Laws of the tests on sets: subset, meeting, emptiness; of the lowest member and of the count of members.
use mathlib.Core.Path.{◌≡◌, refl, sym, ap, ap₂, ◌∙◌}
use mathlib.Core.Logic.{◌⊎◌, inl, inr, ◌≢◌}
use mathlib.Core.Bool.{Bool, true, false, not, ◌&&◌, ◌||◌}
use Prim.Native.Nat.{ℕ, zero, suc, ◌+◌, ◌/◌, ◌%◌, ◌^◌, ◌≤◌, ◌<◌}
use native.Mathlib.Nat.{div-add-mod', mod-lt, le_of_suc-le-suc, not-suc-le-zero}
use native.Mathlib.Numerals.{one-add}
use native.Mathlib.Omega.{arith}
use lib.Dec.{eqb}
use lib.Arith.{bin_ind, lt-one}
use lib.Bits.{bit_and}
use lib.Pow.{pow_pos, split, shr_lt}
use lib.Count.{ones, ones_cat, count_trailing_zeros, under}
use borrow.Author.Tests.{eqb-true, eqb-false, eq-eqb, ne_eqb}
use Rattle.finite.specs.Bounded.{any, least, least_from, count, one}
use Rattle.finite.proofs.Truth.{decide, clash, and_intro, and_left, and_right, same_test, not_true}
use Rattle.finite.proofs.Bounded.{all_intro, all_elim, any_intro, any_elim, count_same, least_same}
use Rattle.bits.specs.Member.{has, pack, implies, both, subset, sets_meet}
use Rattle.bits.proofs.Membership.{digit, has_low, has_suc, has_zero_lem, has_and, has_lt, ext, has_block_low, has_pack_below, pack_below, pack_holds}

-- ---- a set that is not empty has a member

pub member_nonzero : (x s : ℕ) → has x s ≡ true → x ≢ 0
member_nonzero x s m e = clash m (ap (λ (n : ℕ). has n s) e ∙ has_zero_lem s)

pub nonzero_member : (x : ℕ) → x ≢ 0 → (s : ℕ) × (has x s ≡ true)
nonzero_member =
    bin_ind (λ (x : ℕ). x ≢ 0 → (s : ℕ) × (has x s ≡ true)) (λ ne. absurd (ne refl)) (λ x ih ne. go x ih ne (digit x))
  where
    go : (x : ℕ) → (x / 2 ≢ 0 → (s : ℕ) × (has (x / 2) s ≡ true)) → x ≢ 0 → (x % 2 ≡ 0) ⊎ (x % 2 ≡ 1) → (s : ℕ) × (has x s ≡ true)
    go x ih ne (inl e) =
        let rest = ih (λ z. ne (omega (arith, div-add-mod' x 2))) in
        (suc rest.0, has_suc x rest.0 ∙ rest.1)
    go x ih ne (inr e) = (zero, has_low x ∙ eq-eqb (x % 2) 1 e)

pub nonzero_below : (w x : ℕ) → x < 2 ^ w → x ≢ 0 → (s : ℕ) × (s < w) × (has x s ≡ true)
nonzero_below w x h ne =
    let m = nonzero_member x ne in
    (m.0, has_lt w x m.0 h m.1, m.1)

-- ---- subset

and_subset : (x y : ℕ) → bit_and x y ≡ x → (s : ℕ) → has x s ≡ true → has y s ≡ true
and_subset x y e s m = and_right (has x s) (has y s) (sym (has_and x y s) ∙ ap (λ (n : ℕ). has n s) e ∙ m)

subset_and : (x y : ℕ) → ((s : ℕ) → has x s ≡ true → has y s ≡ true) → bit_and x y ≡ x
subset_and x y h = ext (bit_and x y) x (λ s. has_and x y s ∙ go s (decide (has x s)))
  where
    go : (s : ℕ) → (has x s ≡ true) ⊎ (has x s ≡ false) → (has x s && has y s) ≡ has x s
    go s (inl m) = rw (m, h s m)
    go s (inr n) = rw n

subset_elim : (w x y : ℕ) → x < 2 ^ w → subset w x y ≡ true → (s : ℕ) → has x s ≡ true → has y s ≡ true
unfolding subset implies
subset_elim w x y h e s m = rw m at (all_elim w (implies x y) e s (has_lt w x s h m))

pub subset_intro : (w x y : ℕ) → ((s : ℕ) → s < w → has x s ≡ true → has y s ≡ true) → subset w x y ≡ true
unfolding subset implies
subset_intro w x y h = all_intro w (implies x y) (λ s l. go s l (decide (has x s)))
  where
    go : (s : ℕ) → s < w → (has x s ≡ true) ⊎ (has x s ≡ false) → (not (has x s) || has y s) ≡ true
    go s l (inl m) = rw (m, h s l m)
    go s l (inr n) = rw n

-- the test on words: `x & y == x`
pub subset_word : (w x y : ℕ) → x < 2 ^ w → eqb (bit_and x y) x ≡ subset w x y
subset_word w x y h =
    same_test (eqb (bit_and x y) x) (subset w x y)
    (λ e. subset_intro w x y (λ s l m. and_subset x y (eqb-true (bit_and x y) x e) s m))
    (λ e. eq-eqb (bit_and x y) x (subset_and x y (subset_elim w x y h e)))

-- ---- meeting

common_nonzero : (x y s : ℕ) → has x s ≡ true → has y s ≡ true → bit_and x y ≢ 0
common_nonzero x y s m n = member_nonzero (bit_and x y) s (has_and x y s ∙ and_intro m n)

nonzero_common : (x y : ℕ) → bit_and x y ≢ 0 → (s : ℕ) × (has x s ≡ true) × (has y s ≡ true)
nonzero_common x y ne =
    let m = nonzero_member (bit_and x y) ne in
    let b : (has x m.0 && has y m.0) ≡ true = sym (has_and x y m.0) ∙ m.1 in
    (m.0, and_left (has x m.0) (has y m.0) b, and_right (has x m.0) (has y m.0) b)

pub meets_intro : (w x y s : ℕ) → s < w → has x s ≡ true → has y s ≡ true → sets_meet w x y ≡ true
unfolding sets_meet both
meets_intro w x y s l m n = any_intro w (both x y) s l (and_intro m n)

pub meets_elim : (w x y : ℕ) → sets_meet w x y ≡ true → (s : ℕ) × (s < w) × (has x s ≡ true) × (has y s ≡ true)
unfolding sets_meet both
meets_elim w x y e =
    let k = any_elim w (both x y) e in
    (k.0, k.1, and_left (has x k.0) (has y k.0) k.2, and_right (has x k.0) (has y k.0) k.2)

-- two sets meet, one of them told by its members
pub meets_pack : (w n x : ℕ) (p : ℕ → Bool) → n ≤ w → sets_meet w x (pack n p) ≡ any n (λ t. has x t && p t)
meets_pack w n x p b =
    same_test (sets_meet w x (pack n p)) (any n (λ t. has x t && p t))
    (λ e.
    let v = meets_elim w x (pack n p) e in
    any_intro n (λ t. has x t && p t) v.0 (pack_below n p v.0 v.3) (and_intro v.2 (pack_holds n p v.0 v.3)))
    (λ e.
    let v = any_elim n (λ t. has x t && p t) e in
    meets_intro w x (pack n p) v.0 (omega (arith, v.1)) (and_left (has x v.0) (p v.0) v.2)
    (has_pack_below n p v.0 v.1 ∙ and_right (has x v.0) (p v.0) v.2))

-- the test on words: `x & y != 0`
pub meets_word : (w x y : ℕ) → x < 2 ^ w → not (eqb (bit_and x y) 0) ≡ sets_meet w x y
meets_word w x y h = same_test (not (eqb (bit_and x y) 0)) (sets_meet w x y) to back
  where
    to : not (eqb (bit_and x y) 0) ≡ true → sets_meet w x y ≡ true
    to e =
        let c = nonzero_common x y (eqb-false (bit_and x y) 0 (not_true (eqb (bit_and x y) 0) e)) in
        meets_intro w x y c.0 (has_lt w x c.0 h c.1) c.1 c.2

    back : sets_meet w x y ≡ true → not (eqb (bit_and x y) 0) ≡ true
    back e =
        let c = meets_elim w x y e in
        ap not (ne_eqb (bit_and x y) 0 (common_nonzero x y c.0 c.2 c.3))

-- ---- the lowest member

from_suc : (n : ℕ) (p : ℕ → Bool) (k : ℕ) → least_from n p (suc k) ≡ suc (least_from n (λ j. p (suc j)) k)
unfolding least_from
from_suc zero p k = refl
from_suc (suc n) p k = go (p (suc k)) (from_suc n p (suc k))
  where
    go : (b : Bool) → least_from n p (suc (suc k)) ≡ suc (least_from n (λ j. p (suc j)) (suc k))
        → elim b as (λ _. ℕ) [ true ↦ suc k | false ↦ least_from n p (suc (suc k)) ]
        ≡ suc (elim b as (λ _. ℕ) [ true ↦ k | false ↦ least_from n (λ j. p (suc j)) (suc k) ])
    go true ih = refl
    go false ih = ih

-- the count of zeros under the lowest set digit is the lowest member; w where there is none below w
pub lowest_word : (w x : ℕ) → count_trailing_zeros w x ≡ least w (has x)
unfolding count_trailing_zeros least least_from
lowest_word zero x = refl
lowest_word (suc w) x = go (lowest_word w (x / 2)) (digit x)
  where
    shifted : least w (has (x / 2)) ≡ least w (λ j. has x (suc j))
    shifted = least_same w (has (x / 2)) (λ j. has x (suc j)) (λ k l. sym (has_suc x k))

    pick : (b : Bool) → has x zero ≡ b → least_from (suc w) (has x) zero ≡ elim b as (λ _. ℕ) [ true ↦ zero | false ↦ least_from w (has x) 1 ]
    pick b e = ap (λ (c : Bool). elim c as (λ _. ℕ) [ true ↦ zero | false ↦ least_from w (has x) 1 ]) e

    go : count_trailing_zeros w (x / 2) ≡ least w (has (x / 2)) → (x % 2 ≡ 0) ⊎ (x % 2 ≡ 1) → count_trailing_zeros (suc w) x ≡ least (suc w) (has x)
    go ih (inl e) =
        ap (λ (d : ℕ). under d (count_trailing_zeros w (x / 2))) e ∙ ap suc (ih ∙ shifted)
        ∙ sym (from_suc w (has x) zero) ∙ sym (pick false (has_low x ∙ ap (λ (d : ℕ). eqb d 1) e))
    go ih (inr e) =
        ap (λ (d : ℕ). under d (count_trailing_zeros w (x / 2))) e ∙ sym (pick true (has_low x ∙ eq-eqb (x % 2) 1 e))

-- ---- the count of members

has_mod : (w x s : ℕ) → s < w → has x s ≡ has (x % 2 ^ w) s
has_mod w x s l = ap (λ (n : ℕ). has n s) (sym (split x w)) ∙ has_block_low w (x / 2 ^ w) (x % 2 ^ w) s l

-- one digit counts 1 where it is set
ones_digit : (d : ℕ) → d < 2 → ones d ≡ one (eqb (d % 2) 1)
unfolding ones one
ones_digit zero h = refl
ones_digit (suc zero) h = refl
ones_digit (suc (suc d)) h = absurd (not-suc-le-zero (le_of_suc-le-suc (le_of_suc-le-suc h)))

pub count_word : (w x : ℕ) → x < 2 ^ w → ones x ≡ count w (has x)
unfolding count ones has
count_word zero x h = ap ones (lt-one h)
count_word (suc w) x h =
    ap ones (sym (split x w)) ∙ ones_cat w (x / 2 ^ w) (x % 2 ^ w) (mod-lt x (pow_pos w))
    ∙ ap₂ (λ (a b : ℕ). a + b)
    (ones_digit (x / 2 ^ w) (shr_lt 1 w (rw one-add h)))
    (count_word w (x % 2 ^ w) (mod-lt x (pow_pos w))
    ∙ count_same w (has (x % 2 ^ w)) (has x) (λ s l. sym (has_mod w x s l)))
