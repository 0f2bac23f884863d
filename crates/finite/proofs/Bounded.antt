-- Laws of bounded search. Each definition has an introduction and an elimination lemma; nobody else unfolds it.
use Prim.Native.Nat.{ℕ, zero, suc, ◌+◌, ◌-◌, ◌≤◌, ◌<◌}
use native.Mathlib.Nat.{add-zero, add-suc}
use mathlib.Core.Path.{◌≡◌, refl, sym, ◌∙◌, ap}
use mathlib.Core.Bool.{Bool, true, false}
use mathlib.Core.Logic.{◌⊎◌, inl, inr}
use native.Mathlib.Omega.{arith}
use native.Mathlib.Decide.{ℕ_discrete, dec_lt}
use Rattle.finite.specs.Bounded.{all, any, least_from, least, one, count}
use Rattle.finite.proofs.Truth.{
  decide,
  clash,
  false_of,
  and_intro,
  and_left,
  and_right,
  and_cases,
  or_left,
  or_right,
  or_cases,
}

-- k below suc n is n or below n
pub below_suc : (k n : ℕ) → k < suc n → (k ≡ n) ⊎ (k < n)
below_suc k n h = elim (ℕ_discrete k n) [ yes e ↦ inl e | no d ↦ inr (omega arith) ]

pub all_intro : (n : ℕ) (p : ℕ → Bool) → ((k : ℕ) → k < n → p k ≡ true) → all n p ≡ true
unfolding all
all_intro zero p h = refl
all_intro (suc n) p h = and_intro (h n (omega arith)) (all_intro n p (λ k b. h k (omega arith)))

pub all_elim : (n : ℕ) (p : ℕ → Bool) → all n p ≡ true → (k : ℕ) → k < n → p k ≡ true
unfolding all
all_elim zero p h k b = absurd (omega arith)
all_elim (suc n) p h k b =
    elim (below_suc k n b) [
      | inl e ↦ rw e (and_left (p n) (all n p) h)
      | inr c ↦ all_elim n p (and_right (p n) (all n p) h) k c
    ]

pub any_intro : (n : ℕ) (p : ℕ → Bool) (k : ℕ) → k < n → p k ≡ true → any n p ≡ true
unfolding any
any_intro zero p k b h = absurd (omega arith)
any_intro (suc n) p k b h =
    elim (below_suc k n b) [
      | inl e ↦ or_left (any n p) (rw e at h)
      | inr c ↦ or_right (p n) (any_intro n p k c h)
    ]

-- a witness of any
pub any_elim : (n : ℕ) (p : ℕ → Bool) → any n p ≡ true → (k : ℕ) × (k < n) × (p k ≡ true)
unfolding any
any_elim zero p h = clash h refl
any_elim (suc n) p h = go (or_cases (p n) (any n p) h) (any_elim n p)
  where
    go : (p n ≡ true) ⊎ (any n p ≡ true) → (any n p ≡ true → (k : ℕ) × (k < n) × (p k ≡ true)) → (k : ℕ) × (k < suc n) × (p k ≡ true)
    go (inl e) rec = (n, omega arith, e)
    go (inr e) rec = let w = rec e in (w.0, omega (arith, w.1), w.2)

pub any_none : (n : ℕ) (p : ℕ → Bool) → ((k : ℕ) → k < n → p k ≡ false) → any n p ≡ false
any_none n p h = false_of (any n p) (λ e. let w = any_elim n p e in clash w.2 (h w.0 w.1))

pub any_false : (n : ℕ) (p : ℕ → Bool) → any n p ≡ false → (k : ℕ) → k < n → p k ≡ false
any_false n p h k b = false_of (p k) (λ e. clash (any_intro n p k b e) h)

-- a counterexample of all
pub all_false : (n : ℕ) (p : ℕ → Bool) → all n p ≡ false → (k : ℕ) × (k < n) × (p k ≡ false)
unfolding all
all_false zero p h = clash refl h
all_false (suc n) p h = go (and_cases (p n) (all n p) h) (all_false n p)
  where
    go : (p n ≡ false) ⊎ (all n p ≡ false) → (all n p ≡ false → (k : ℕ) × (k < n) × (p k ≡ false)) → (k : ℕ) × (k < suc n) × (p k ≡ false)
    go (inl e) rec = (n, omega arith, e)
    go (inr e) rec = let w = rec e in (w.0, omega (arith, w.1), w.2)

pub all_fails : (n : ℕ) (p : ℕ → Bool) (k : ℕ) → k < n → p k ≡ false → all n p ≡ false
all_fails n p k b h = false_of (all n p) (λ e. clash (all_elim n p e k b) h)

-- tests that agree below n
pub all_same : (n : ℕ) (p q : ℕ → Bool) → ((k : ℕ) → k < n → p k ≡ q k) → all n p ≡ all n q
unfolding all
all_same zero p q h = refl
all_same (suc n) p q h = rw (h n (omega arith), all_same n p q (λ k b. h k (omega arith))) refl

pub any_same : (n : ℕ) (p q : ℕ → Bool) → ((k : ℕ) → k < n → p k ≡ q k) → any n p ≡ any n q
unfolding any
any_same zero p q h = refl
any_same (suc n) p q h = rw (h n (omega arith), any_same n p q (λ k b. h k (omega arith))) refl

-- least

from_none : (p : ℕ → Bool) (k : ℕ) → least_from zero p k ≡ k
unfolding least_from
from_none p k = refl

from_here : (n : ℕ) (p : ℕ → Bool) (k : ℕ) → p k ≡ true → least_from (suc n) p k ≡ k
unfolding least_from
from_here n p k e = rw (e, least_from) refl

from_next : (n : ℕ) (p : ℕ → Bool) (k : ℕ) → p k ≡ false → least_from (suc n) p k ≡ least_from n p (suc k)
unfolding least_from
from_next n p k e = rw (e, least_from) refl

from_member : (n : ℕ) (p : ℕ → Bool) (k : ℕ) → least_from n p k < k + n → p (least_from n p k) ≡ true
from_member zero p k h = absurd (omega (arith, from_none p k))
from_member (suc n) p k h =
    elim (decide (p k)) [
      | inl e ↦ rw (from_here n p k e) e
      | inr e ↦ rw (from_next n p k e) (from_member n p (suc k) (omega (arith, from_next n p k e)))
    ]

from_before : (n : ℕ) (p : ℕ → Bool) (k j : ℕ) → k ≤ j → j < least_from n p k → p j ≡ false
from_before zero p k j a h = absurd (omega (arith, from_none p k))
from_before (suc n) p k j a h =
    elim (decide (p k)) [
      | inl e ↦ absurd (omega (arith, from_here n p k e))
      | inr e ↦ elim (ℕ_discrete j k) [
        | yes q ↦ rw q e
        | no q ↦ from_before n p (suc k) j (omega arith) (omega (arith, from_next n p k e))
      ]
    ]

from_le : (n : ℕ) (p : ℕ → Bool) (k : ℕ) → least_from n p k ≤ k + n
from_le zero p k = omega (arith, from_none p k)
from_le (suc n) p k =
    elim (decide (p k)) [
      | inl e ↦ omega (arith, from_here n p k e)
      | inr e ↦ omega (arith, from_next n p k e, from_le n p (suc k))
    ]

pub least_le : (n : ℕ) (p : ℕ → Bool) → least n p ≤ n
unfolding least
least_le n p = omega (arith, from_le n p zero)

pub least_member : (n : ℕ) (p : ℕ → Bool) → least n p < n → p (least n p) ≡ true
unfolding least
least_member n p h = from_member n p zero (omega arith)

pub least_before : (n : ℕ) (p : ℕ → Bool) (j : ℕ) → j < least n p → p j ≡ false
unfolding least
least_before n p j h = from_before n p zero j (omega arith) h

pub least_at_most : (n : ℕ) (p : ℕ → Bool) (k : ℕ) → p k ≡ true → least n p ≤ k
least_at_most n p k h = elim (dec_lt k (least n p)) [ yes b ↦ clash h (least_before n p k b) | no b ↦ omega arith ]

pub least_below : (n : ℕ) (p : ℕ → Bool) (k : ℕ) → k < n → p k ≡ true → least n p < n
least_below n p k b h = omega (arith, least_at_most n p k h)

pub least_found : (n : ℕ) (p : ℕ → Bool) → any n p ≡ true → least n p < n
least_found n p h = let w = any_elim n p h in least_below n p w.0 w.1 w.2

pub least_any : (n : ℕ) (p : ℕ → Bool) → least n p < n → any n p ≡ true
least_any n p h = any_intro n p (least n p) h (least_member n p h)

-- the least is the one member that no member goes before
pub least_unique : (n : ℕ) (p : ℕ → Bool) (k : ℕ) → k < n → p k ≡ true → ((j : ℕ) → j < k → p j ≡ false) → least n p ≡ k
least_unique n p k b h before = go (dec_lt (least n p) k)
  where
    go : Dec (least n p < k) → least n p ≡ k
    go (yes c) = clash (least_member n p (omega arith)) (before (least n p) c)
    go (no c) = omega (arith, least_at_most n p k h)

pub least_same : (n : ℕ) (p q : ℕ → Bool) → ((k : ℕ) → k < n → p k ≡ q k) → least n p ≡ least n q
least_same n p q h = go (dec_lt (least n p) n) (dec_lt (least n q) n)
  where
    go : Dec (least n p < n) → Dec (least n q < n) → least n p ≡ least n q
    go (yes a) d =
        sym (least_unique n q (least n p) a (sym (h (least n p) a) ∙ least_member n p a) (λ j b. sym (h j (omega arith)) ∙ least_before n p j b))
    go (no a) (yes b) = absurd (a (least_below n p (least n q) b (h (least n q) b ∙ least_member n q b)))
    go (no a) (no b) = omega (arith, least_le n p, least_le n q)

-- count

pub one_le : (b : Bool) → one b ≤ 1
unfolding one
one_le true = omega arith
one_le false = omega arith

one_true : {b : Bool} → b ≡ true → one b ≡ 1
unfolding one
one_true e = rw e refl

one_false : {b : Bool} → b ≡ false → one b ≡ 0
unfolding one
one_false e = rw e refl

-- counting goes by parts
pub count_add : (n m : ℕ) (p : ℕ → Bool) → count (n + m) p ≡ count n p + count m (λ k. p (n + k))
unfolding count
count_add n zero p = rw (add-zero n) (sym (add-zero (count n p)))
count_add n (suc m) p = let h = count_add n m p in rw add-suc (omega (arith, h))

pub count_le : (n : ℕ) (p : ℕ → Bool) → count n p ≤ n
unfolding count
count_le zero p = omega arith
count_le (suc n) p = omega (arith, one_le (p n), count_le n p)

one_mono : (a b : Bool) → (a ≡ true → b ≡ true) → one a ≤ one b
unfolding one
one_mono true b f = rw (f refl) (omega arith)
one_mono false b f = omega arith

pub count_mono : (n : ℕ) (p q : ℕ → Bool) → ((k : ℕ) → k < n → p k ≡ true → q k ≡ true) → count n p ≤ count n q
unfolding count
count_mono zero p q h = omega arith
count_mono (suc n) p q h =
    omega (arith, one_mono (p n) (q n) (h n (omega arith)), count_mono n p q (λ k b. h k (omega arith)))

pub count_less : (n : ℕ) (p q : ℕ → Bool) → ((k : ℕ) → k < n → p k ≡ true → q k ≡ true) → (m : ℕ) → m < n → p m ≡ false → q m ≡ true → count n p < count n q
unfolding count
count_less zero p q h m b f t = absurd (omega arith)
count_less (suc n) p q h m b f t =
    elim (below_suc m n b) [
      | inl e ↦ omega (arith, one_false (rw e at f), one_true (rw e at t), count_mono n p q (λ k c. h k (omega arith)))
      | inr c ↦ omega (arith, one_mono (p n) (q n) (h n (omega arith)), count_less n p q (λ k d. h k (omega arith)) m c f t)
    ]

pub count_pos : (n : ℕ) (p : ℕ → Bool) (k : ℕ) → k < n → p k ≡ true → 0 < count n p
unfolding count
count_pos zero p k b h = absurd (omega arith)
count_pos (suc n) p k b h =
    elim (below_suc k n b) [
      | inl e ↦ omega (arith, one_true (rw e at h))
      | inr c ↦ omega (arith, count_pos n p k c h)
    ]

pub count_same : (n : ℕ) (p q : ℕ → Bool) → ((k : ℕ) → k < n → p k ≡ q k) → count n p ≡ count n q
unfolding count
count_same zero p q h = refl
count_same (suc n) p q h = rw (h n (omega arith), count_same n p q (λ k b. h k (omega arith))) refl

-- one number further

pub count_in : (p : ℕ → Bool) (n : ℕ) → p n ≡ true → count (suc n) p ≡ suc (count n p)
unfolding count one
count_in p n e = rw e (omega arith)

pub count_out : (p : ℕ → Bool) (n : ℕ) → p n ≡ false → count (suc n) p ≡ count n p
unfolding count one
count_out p n e = rw e (omega arith)

count_step : (p : ℕ → Bool) (n : ℕ) → count n p ≤ count (suc n) p
count_step p n =
    elim (decide (p n)) [
      | inl e ↦ omega (arith, count_in p n e)
      | inr e ↦ omega (arith, count_out p n e)
    ]

pub count_up : (p : ℕ → Bool) (a b : ℕ) → a ≤ b → count a p ≤ count b p
count_up p a zero h = let e : a ≡ zero = omega arith in rw e (omega arith)
count_up p a (suc b) h =
    elim (ℕ_discrete a (suc b)) [
      | yes e ↦ rw e (omega arith)
      | no n ↦ omega (arith, count_up p a b (omega arith), count_step p b)
    ]

-- past a member it has risen
pub count_past : (p : ℕ → Bool) (a b : ℕ) → p a ≡ true → a < b → count a p < count b p
count_past p a b e h = omega (arith, count_in p a e, count_up p (suc a) b (omega arith))

-- every number below the count is the count up to some member
pub count_reached : (p : ℕ → Bool) (n c : ℕ) → c < count n p → (s : ℕ) × (s < n) × (p s ≡ true) × (count s p ≡ c)
unfolding count
count_reached p zero c h = absurd (omega arith)
count_reached p (suc n) c h = go (dec_lt c (count n p)) (decide (p n)) (count_reached p n c)
  where
    go : Dec (c < count n p) → (p n ≡ true) ⊎ (p n ≡ false) → (c < count n p → (s : ℕ) × (s < n) × (p s ≡ true) × (count s p ≡ c))
        → (s : ℕ) × (s < suc n) × (p s ≡ true) × (count s p ≡ c)
    go (yes b) d rec = let w = rec b in (w.0, omega (arith, w.1), w.2, w.3)
    go (no b) (inl e) rec = (n, omega arith, e, omega (arith, count_in p n e))
    go (no b) (inr e) rec = absurd (omega (arith, count_out p n e))

-- where all below n are counted, each is a member
pub count_all : (n : ℕ) (p : ℕ → Bool) → count n p ≡ n → (k : ℕ) → k < n → (p k ≡ true) × (count k p ≡ k)
unfolding count
count_all zero p e k b = absurd (omega arith)
count_all (suc n) p e k b =
    elim (decide (p n)) [
      | inl t ↦ last t (omega (arith, count_in p n t, e)) (count_all n p)
      | inr f ↦ absurd (omega (arith, count_out p n f, e, count_le n p))
    ]
  where
    last : p n ≡ true → count n p ≡ n → (count n p ≡ n → (i : ℕ) → i < n → (p i ≡ true) × (count i p ≡ i)) → (p k ≡ true) × (count k p ≡ k)
    last t f before = elim (ℕ_discrete k n) [ yes q ↦ rw q (t, f) | no q ↦ before f k (omega arith) ]

-- numbers past n that do not pass are not counted
count_more : (n d : ℕ) (p : ℕ → Bool) → ((k : ℕ) → n ≤ k → p k ≡ false) → count (n + d) p ≡ count n p
count_more n zero p f = rw (add-zero n) refl
count_more n (suc d) p f =
    ap (λ (k : ℕ). count k p) (add-suc n d) ∙ count_out p (n + d) (f (n + d) (omega arith)) ∙ count_more n d p f

pub count_wide : (n w : ℕ) (p : ℕ → Bool) → n ≤ w → ((k : ℕ) → n ≤ k → p k ≡ false) → count w p ≡ count n p
count_wide n w p b f =
    let e : w ≡ n + (w - n) = omega arith in
    ap (λ (k : ℕ). count k p) e ∙ count_more n (w - n) p f
