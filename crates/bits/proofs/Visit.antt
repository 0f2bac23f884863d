-- The members of a set below a bound, visited lowest first.
--
--   lowest_below, lowest_in_lem   : the lowest member of a word that is not 0
--   lowest_less               : a word without its lowest member
--   cut_in, cut_all           : the members of a set below a bound
--   Collected w x n p rest c  == c has the members of x below n with p, but for those of `rest`
--   collected-*               : how that begins, goes on and ends
--   whole_start, within_start : how it begins where all members of x are below the bound
--   whole_end                 : and how it ends
--   cut_start, cut_end        : how it begins and ends where x is cut at the bound first
use Prim.Native.Nat.{ℕ, ◌^◌, ◌≤◌, ◌<◌}
use mathlib.Core.Path.{◌≡◌, sym, ◌∙◌, ap}
use mathlib.Core.Bool.{Bool, true, false, ◌&&◌, ◌||◌, not}
use mathlib.Core.Logic.{inl, inr, ◌≢◌}
use native.Mathlib.Omega.{arith}
use native.Mathlib.Decide.{ℕ_discrete}
use lib.Dec.{eqb, ltb}
use borrow.Author.Tests.{lt-ltb, ltb-true, eq-eqb, eqb-true}
use Rattle.finite.specs.Bounded.{least, count}
use Rattle.finite.proofs.Truth.{clash, same_test, and_intro, and_left, and_right, or_left, or_right, or_cases}
use Rattle.finite.proofs.Bounded.{least_below, least_member}
use Rattle.bits.specs.Member.{has, within, pack}
use Rattle.bits.proofs.Membership.{ext, has_zero_lem, has_pack, pack_ext, within_has, within_lt, has_within}
use Rattle.bits.proofs.Compare.{nonzero_below}
use Rattle.bits.proofs.Remove.{less_in, less_other, less_falls}

-- a set of states below w is a number of w bits
pub small_word : (w x : ℕ) → ((s : ℕ) → has x s ≡ true → s < w) → x < 2 ^ w
small_word w x f = within_lt x w (has_within x w f)

module _ (w x h : ℕ) (small : x < 2 ^ w) (ne : x ≢ 0) (e : h ≡ least w (has x)) where
  pub lowest_below : h < w
  lowest_below = let m = nonzero_below w x small ne in omega (arith, least_below w (has x) m.0 m.1 m.2)

  pub lowest_in_lem : has x h ≡ true
  lowest_in_lem = let b = lowest_below in rw e (least_member w (has x) (rw e at b))

pub lowest_less : (w x h r : ℕ) → h ≡ least w (has x) → ((s : ℕ) → has r s ≡ (has x s && not (eqb s (least w (has x)))))
    → (s : ℕ) → has r s ≡ (has x s && not (eqb s h))
lowest_less w x h r e d s = rw e (d s)

module _ (x b y n : ℕ) (f : (s : ℕ) → has b s ≡ ltb s n) (i : (s : ℕ) → has y s ≡ (has x s && has b s)) where
  pub cut_in : (s : ℕ) → has y s ≡ true → (s < n) × (has x s ≡ true)
  cut_in s e = (ltb-true s n (sym (f s) ∙ and_right (has x s) (has b s) (sym (i s) ∙ e)), and_left (has x s) (has b s) (sym (i s) ∙ e))

  pub cut_all : (s : ℕ) → s < n → has x s ≡ true → has y s ≡ true
  cut_all s l e = i s ∙ and_intro e (f s ∙ lt-ltb s n l)

pub record Collected (w x n : ℕ) (p : ℕ → Bool) (rest c : ℕ) : Type 0 where
  pub bound : n ≤ w
  pub inside : (s : ℕ) → has rest s ≡ true → (s < n) × (has x s ≡ true)
  pub right : (s : ℕ) → has c s ≡ true → (s < n) × (has x s ≡ true) × (p s ≡ true)
  pub all : (s : ℕ) → s < n → has x s ≡ true → has rest s ≡ false → p s ≡ true → has c s ≡ true

module _ (w x n : ℕ) (p : ℕ → Bool) where
  -- before the first visit nothing is collected, and all members are left
  all_left : (y : ℕ) → n ≤ w → ((s : ℕ) → has y s ≡ true → (s < n) × (has x s ≡ true)) → ((s : ℕ) → s < n → has x s ≡ true → has y s ≡ true)
      → Collected w x n p y 0
  all_left y b f g = record {
    bound = b;
    inside = f;
    right = λ s e. clash e (has_zero_lem s);
    all = λ s l e r q. clash (g s l e) r;
  }

  pub whole_start : n ≤ w → ((s : ℕ) → has x s ≡ true → s < n) → Collected w x n p x 0
  whole_start l b = all_left x l (λ s e. (b s e, e)) (λ s l e. e)

  pub within_start : n ≤ w → within x n ≡ true → Collected w x n p x 0
  within_start l i = whole_start l (λ s e. within_has x n s i e)

  module _ (rest c : ℕ) (C : Collected w x n p rest c) (ne : rest ≢ 0) (h : ℕ) (e : h ≡ least w (has rest)) where
    small : rest < 2 ^ w
    small = small_word w rest (λ s a. omega (arith, C.bound, (C.inside s a).0))

    pub collected_small : h < w
    collected_small = lowest_below w rest h small ne e

    pub collected_below : h < n
    collected_below = (C.inside h (lowest_in_lem w rest h small ne e)).0

    -- r is rest without its lowest member
    module _ (r : ℕ) (d : (s : ℕ) → has r s ≡ (has rest s && not (eqb s (least w (has rest))))) where
      less : (s : ℕ) → has r s ≡ (has rest s && not (eqb s h))
      less = lowest_less w rest h r e d

      pub collected_falls : count w (has r) < count w (has rest)
      collected_falls = less_falls rest h r less w collected_small (lowest_in_lem w rest h small ne e)

      pub collected_next : {k : ℕ} {ok : Bool} → ok ≡ p h → ((s : ℕ) → has k s ≡ (has c s || (ok && eqb s h))) → Collected w x n p r k
      collected_next {k} {ok} o g = record {
        bound = C.bound;
        inside = λ s a. C.inside s (less_in rest h r less s a);
        right = right;
        all = λ s l a b q. all s l a b q (ℕ_discrete s h);
      }
        where
          here : (h < n) × (has x h ≡ true)
          here = C.inside h (lowest_in_lem w rest h small ne e)

          right : (s : ℕ) → has k s ≡ true → (s < n) × (has x s ≡ true) × (p s ≡ true)
          right s a =
              elim (or_cases (has c s) (ok && eqb s h) (sym (g s) ∙ a)) [
                | inl q ↦ C.right s q
                | inr q ↦ rw (eqb-true s h (and_right ok (eqb s h) q)) (here.0, here.1, sym o ∙ and_left ok (eqb s h) q)
              ]

          all : (s : ℕ) → s < n → has x s ≡ true → has r s ≡ false → p s ≡ true → Dec (s ≡ h) → has k s ≡ true
          all s l a b q (yes z) = g s ∙ or_right (has c s) (and_intro (o ∙ ap p (sym z) ∙ q) (eq-eqb s h z))
          all s l a b q (no z) = g s ∙ or_left (ok && eqb s h) (C.all s l a (sym (less_other rest h r less s z) ∙ b) q)

  pub collected_end : (rest c : ℕ) → Collected w x n p rest c → rest ≡ 0 → c ≡ pack n (λ s. has x s && p s)
  collected_end rest c C z = ext c (pack n (λ s. has x s && p s)) (λ s. same_test (has c s) (has (pack n (λ t. has x t && p t)) s) (to s) (back s))
    where
      to : (s : ℕ) → has c s ≡ true → has (pack n (λ t. has x t && p t)) s ≡ true
      to s h =
          let w = C.right s h in
          has_pack n (λ t. has x t && p t) s ∙ and_intro (lt-ltb s n w.0) (and_intro w.1 w.2)

      back : (s : ℕ) → has (pack n (λ t. has x t && p t)) s ≡ true → has c s ≡ true
      back s h =
          let both : (ltb s n && (has x s && p s)) ≡ true = sym (has_pack n (λ t. has x t && p t) s) ∙ h in
          let in' = and_right (ltb s n) (has x s && p s) both in
          C.all s (ltb-true s n (and_left (ltb s n) (has x s && p s) both)) (and_left (has x s) (p s) in')
          (ap (λ (k : ℕ). has k s) z ∙ has_zero_lem s) (and_right (has x s) (p s) in')

  pub whole_end : (rest c : ℕ) → Collected w x n p rest c → rest ≡ 0 → ((s : ℕ) → has x s ≡ true → s < n) → (s : ℕ) → has c s ≡ (has x s && p s)
  whole_end rest c C z b s =
      same_test (has c s) (has x s && p s) (λ h. let v = C.right s h in and_intro v.1 v.2)
      (λ h. let m = and_left (has x s) (p s) h in
      C.all s (b s m) m (ap (λ (k : ℕ). has k s) z ∙ has_zero_lem s) (and_right (has x s) (p s) h))

-- y are the members of x below n
module _ (w x b y n : ℕ) (f : (s : ℕ) → has b s ≡ ltb s n) (i : (s : ℕ) → has y s ≡ (has x s && has b s)) (p : ℕ → Bool) where
  pub cut_start : n ≤ w → Collected w y n p y 0
  cut_start small = whole_start w y n p small (λ s e. (cut_in x b y n f i s e).0)

  pub cut_end : (rest c : ℕ) → Collected w y n p rest c → rest ≡ 0 → c ≡ pack n (λ s. has x s && p s)
  cut_end rest c C z =
      collected_end w y n p rest c C z
      ∙ pack_ext n (λ s. has y s && p s) (λ s. has x s && p s) (λ s l. ap (λ (k : Bool). k && p s) (same s l))
    where
      same : (s : ℕ) → s < n → has y s ≡ has x s
      same s l = same_test (has y s) (has x s) (λ e. (cut_in x b y n f i s e).1) (λ e. cut_all x b y n f i s l e)
