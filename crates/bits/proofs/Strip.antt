-- `x & (x - 1)` is x without its lowest member.
use Prim.Native.Nat.{ℕ, suc, ◌+◌, ◌*◌, ◌-◌, ◌/◌, ◌%◌, ◌^◌, ◌<◌}
use mathlib.Core.Path.{◌≡◌, refl, sym, ◌∙◌, ap, ap₂}
use mathlib.Core.Bool.{Bool, true, false, ◌&&◌, not}
use mathlib.Core.Logic.{◌≢◌}
use native.Mathlib.Omega.{arith}
use native.Mathlib.Decide.{ℕ_discrete, dec_lt}
use native.Mathlib.Nat.{mod-lt, add-mul, one-mul}
use lib.Dec.{eqb}
use lib.Bits.{bit_and}
use lib.Pow.{pow_pos, split}
use borrow.Author.Tests.{eqb-true, eq-eqb, ne_eqb}
use Rattle.finite.specs.Bounded.{least}
use Rattle.finite.proofs.Bounded.{least_before}
use Rattle.bits.specs.Member.{has}
use Rattle.bits.proofs.Membership.{has_low, has_suc, has_zero_lem, has_and, has_past, has_block_low, has_block_high, ext}
use Rattle.bits.proofs.Visit.{lowest_in_lem}

-- h is a member, and nothing before it
module _ (x h : ℕ) (m : has x h ≡ true) (f : (s : ℕ) → s < h → has x s ≡ false) where
  odd : (x / 2 ^ h) % 2 ≡ 1
  unfolding has
  odd = eqb-true ((x / 2 ^ h) % 2) 1 m

  under : x % 2 ^ h ≡ 0
  under = ext (x % 2 ^ h) 0 (λ s. go s (dec_lt s h))
    where
      go : (s : ℕ) → Dec (s < h) → has (x % 2 ^ h) s ≡ has 0 s
      go s (yes l) =
          sym (has_block_low h (x / 2 ^ h) (x % 2 ^ h) s l) ∙ ap (λ (n : ℕ). has n s) (split x h) ∙ f s l ∙ sym (has_zero_lem s)
      go s (no n) = has_past h (x % 2 ^ h) s (mod-lt x (pow_pos h)) (omega arith) ∙ sym (has_zero_lem s)

  -- so one less has the digits from h on of one less, and all below h
  one_less : x - 1 ≡ (x / 2 ^ h - 1) * 2 ^ h + (2 ^ h - 1)
  one_less = go (x / 2 ^ h) (2 ^ h) odd (pow_pos h) (sym (split x h) ∙ ap (λ (r : ℕ). x / 2 ^ h * 2 ^ h + r) under)
    where
      go : (a p : ℕ) → a % 2 ≡ 1 → 0 < p → x ≡ a * p + 0 → x - 1 ≡ (a - 1) * p + (p - 1)
      go a p o b e =
          let c : a ≡ a - 1 + 1 = omega arith in
          let g : a * p ≡ (a - 1) * p + p = ap (λ (k : ℕ). k * p) c ∙ add-mul (a - 1) 1 p ∙ ap (λ (k : ℕ). (a - 1) * p + k) (one-mul p) in
          omega arith

  high_of : (n k : ℕ) → n ≡ (x / 2 ^ h - 1) * 2 ^ h + (2 ^ h - 1) → has n (h + k) ≡ has (x / 2 ^ h - 1) k
  high_of n k e = ap (λ (y : ℕ). has y (h + k)) e ∙ has_block_high h (x / 2 ^ h - 1) (2 ^ h - 1) k (omega (arith, pow_pos h))

  at_lowest : has (x - 1) h ≡ false
  at_lowest =
      let z : h ≡ h + 0 = omega arith in
      ap (has (x - 1)) z ∙ high_of (x - 1) 0 one_less ∙ has_low (x / 2 ^ h - 1) ∙ ne_eqb ((x / 2 ^ h - 1) % 2) 1 (λ e. omega (arith, odd))

  above : (s : ℕ) → h < s → has (x - 1) s ≡ has x s
  above s b =
      let z : s ≡ h + suc (s - h - 1) = omega arith in
      let same : (x / 2 ^ h - 1) / 2 ≡ x / 2 ^ h / 2 = omega (arith, odd) in
      ap (has (x - 1)) z ∙ high_of (x - 1) (suc (s - h - 1)) one_less ∙ has_suc (x / 2 ^ h - 1) (s - h - 1)
      ∙ ap (λ (n : ℕ). has n (s - h - 1)) same ∙ sym (has_suc (x / 2 ^ h) (s - h - 1))
      ∙ sym (has_block_high h (x / 2 ^ h) (x % 2 ^ h) (suc (s - h - 1)) (mod-lt x (pow_pos h)))
      ∙ ap₂ has (split x h) (sym z)

  strip_at : (s : ℕ) → has (bit_and x (x - 1)) s ≡ (has x s && not (eqb s h))
  strip_at s = has_and x (x - 1) s ∙ go (ℕ_discrete s h) (dec_lt s h)
    where
      go : Dec (s ≡ h) → Dec (s < h) → (has x s && has (x - 1) s) ≡ (has x s && not (eqb s h))
      go (yes e) l = rw (e, at_lowest, eq-eqb h h refl) refl
      go (no n) (yes l) = rw (f s l) refl
      go (no n) (no l) = rw (above s (omega arith), ne_eqb s h n) (twice (has x s))
        where
          twice : (b : Bool) → (b && b) ≡ (b && true)
          twice true = refl
          twice false = refl

-- `x & (x - 1)`, of a word that is not 0
pub strip_lowest : (w x : ℕ) → x < 2 ^ w → x ≢ 0 → (s : ℕ) → has (bit_and x (x - 1)) s ≡ (has x s && not (eqb s (least w (has x))))
strip_lowest w x b n =
    strip_at x (least w (has x)) (lowest_in_lem w x (least w (has x)) b n refl) (least_before w (has x))
