-- What is read of scratch, loop by loop.
--
--   Reaching   == what the outputs of a set reach, but for those of a set `rest`
--   reaching-* : how that begins, goes on and ends
--   refused_at_lem, refused_within, both_none, both_lowest, unanswered_both : the inputs that no output answers, and the lowest of them
use Prim.Native.Nat.{ℕ, ◌^◌, ◌<◌, ◌≤◌}
use mathlib.Core.Path.{◌≡◌, sym, ◌∙◌, ap}
use mathlib.Core.Bool.{Bool, true, false, ◌&&◌, ◌||◌, not}
use mathlib.Core.List.{List}
use mathlib.Core.Logic.{inl, inr, ◌≢◌}
use native.Mathlib.Omega.{arith}
use native.Mathlib.Decide.{ℕ_discrete, dec_lt}
use lib.Dec.{eqb}
use Rattle.finite.specs.Bounded.{least, count}
use Rattle.finite.proofs.Truth.{clash, and_right, or_left, or_right, or_cases}
use Rattle.finite.proofs.Bounded.{least_le, least_same, least_unique, least_before, least_member}
use Rattle.bits.specs.Member.{has, pack, within, both}
use Rattle.bits.proofs.Membership.{has_zero_lem, has_pack_below, has_within, within_has, pack_below}
use Rattle.bits.proofs.Remove.{less_in, less_other, less_falls}
use Rattle.bits.proofs.Visit.{small_word, lowest_below, lowest_in_lem, lowest_less}
use Rattle.sets.specs.Words.{capacity}
use Rattle.scratch.specs.Stored.{out_reach_at, some_won_at, Reached}
use Rattle.environment_table.specs.Reading.{refused_at, open_at, unanswered_at}

-- what the outputs of y reach, but for those of `rest`
pub record Reaching (l : List ℕ) (n m y rest x : ℕ) : Type 0 where
  pub bound : m ≤ capacity
  pub below : (p : ℕ) → has y p ≡ true → p < m
  pub inside : (p : ℕ) → has rest p ≡ true → has y p ≡ true
  pub reached : (e : ℕ) → has x e ≡ true → (p : ℕ) × (has y p ≡ true) × (has (out_reach_at l n p) e ≡ true)
  pub reaches : (p e : ℕ) → has y p ≡ true → has rest p ≡ false → has (out_reach_at l n p) e ≡ true → has x e ≡ true

module _ (l : List ℕ) (n m y : ℕ) where
  pub reaching_start : (x : ℕ) → x ≡ 0 → m ≤ capacity → within y m ≡ true → Reaching l n m y y x
  reaching_start x z few w = record {
    bound = few;
    below = λ p e. within_has y m p w e;
    inside = λ p e. e;
    reached = λ e h. clash h (ap (λ (k : ℕ). has k e) z ∙ has_zero_lem e);
    reaches = λ p e a b h. clash a b;
  }

  module _ (rest x p : ℕ) (R : Reaching l n m y rest x) (ne : rest ≢ 0) (e : p ≡ least capacity (has rest)) where
    small : rest < 2 ^ capacity
    small = small_word capacity rest (λ s a. omega (arith, R.bound, R.below s (R.inside s a)))

    at : has rest p ≡ true
    at = lowest_in_lem capacity rest p small ne e

    reaching_small : p < capacity
    reaching_small = lowest_below capacity rest p small ne e

    pub reaching_below : p < m
    reaching_below = R.below p (R.inside p at)

    module _ (v : ℕ) (d : (s : ℕ) → has v s ≡ (has rest s && not (eqb s (least capacity (has rest))))) where
      less : (s : ℕ) → has v s ≡ (has rest s && not (eqb s p))
      less = lowest_less capacity rest p v e d

      pub reaching_falls : count capacity (has v) < count capacity (has rest)
      reaching_falls = less_falls rest p v less capacity reaching_small at

      pub reaching_turn : {w z : ℕ} → w ≡ out_reach_at l n p → ((s : ℕ) → has z s ≡ (has x s || has w s)) → Reaching l n m y v z
      reaching_turn {w} {z} q u = record {
        bound = R.bound;
        below = R.below;
        inside = λ s a. R.inside s (less_in rest p v less s a);
        reached = reached;
        reaches = λ s t a b h. reaches s t a b h (ℕ_discrete s p);
      }
        where
          reached : (t : ℕ) → has z t ≡ true → (s : ℕ) × (has y s ≡ true) × (has (out_reach_at l n s) t ≡ true)
          reached t h =
              elim (or_cases (has x t) (has w t) (sym (u t) ∙ h)) [
                | inl a ↦ R.reached t a
                | inr a ↦ (p, R.inside p at, ap (λ (k : ℕ). has k t) (sym q) ∙ a)
              ]

          reaches : (s t : ℕ) → has y s ≡ true → has v s ≡ false → has (out_reach_at l n s) t ≡ true → Dec (s ≡ p) → has z t ≡ true
          reaches s t a b h (yes k) = u t ∙ or_right (has x t) (ap (λ (i : ℕ). has i t) (q ∙ ap (out_reach_at l n) (sym k)) ∙ h)
          reaches s t a b h (no k) = u t ∙ or_left (has w t) (R.reaches s t a (sym (less_other rest p v less s k) ∙ b) h)

  pub reaching_end : (rest x : ℕ) → Reaching l n m y rest x → rest ≡ 0 → Reached l n m y x
  reaching_end rest x R z = record {
    below = R.below;
    reached = R.reached;
    reaches = λ p e a h. R.reaches p e a (ap (λ (k : ℕ). has k p) z ∙ has_zero_lem p) h;
  }

-- the inputs that no output answers, and the lowest of them

pub refused_at_lem : (l : List ℕ) (n m inner set j : ℕ) {b : Bool} → b ≡ some_won_at l n m inner j set → not b ≡ refused_at l n m inner set j
unfolding refused_at
refused_at_lem l n m inner set j e = ap not e

pub refused_within : (n : ℕ) (p : ℕ → Bool) {x : ℕ} → x ≡ pack n p → within x n ≡ true
refused_within n p {x} e = has_within x n (λ s h. pack_below n p s (ap (λ (y : ℕ). has y s) (sym e) ∙ h))

module _ (n from refused : ℕ) (few : n ≤ capacity) (w : within refused n ≡ true) (x : ℕ) (i : (s : ℕ) → has x s ≡ (has from s && has refused s)) where
  in_both : (s : ℕ) → has x s ≡ both from refused s
  unfolding both
  in_both s = i s

  pub both_none : x ≡ 0 → n ≡ least n (both from refused)
  both_none z = go (dec_lt (least n (both from refused)) n)
    where
      go : Dec (least n (both from refused) < n) → n ≡ least n (both from refused)
      go (yes b) =
          let m = least n (both from refused) in
          clash (least_member n (both from refused) b) (sym (in_both m) ∙ ap (λ (k : ℕ). has k m) z ∙ has_zero_lem m)
      go (no b) = omega (arith, least_le n (both from refused))

  pub both_lowest : {j : ℕ} → x ≢ 0 → j ≡ least capacity (has x) → j ≡ least n (both from refused)
  both_lowest {j} ne e = sym (least_unique n (both from refused) j below here before)
    where
      refused_below : (s : ℕ) → has x s ≡ true → s < n
      refused_below s a = within_has refused n s w (and_right (has from s) (has refused s) (sym (i s) ∙ a))

      at : has x j ≡ true
      at = lowest_in_lem capacity x j (small_word capacity x (λ s a. omega (arith, few, refused_below s a))) ne e

      here : both from refused j ≡ true
      here = sym (in_both j) ∙ at

      below : j < n
      below = refused_below j at

      before : (k : ℕ) → k < j → both from refused k ≡ false
      before k b = sym (in_both k) ∙ least_before capacity (has x) k (rw e at b)

module _ (l : List ℕ) (n m inner from set : ℕ) where
  pub unanswered_both : {x : ℕ} → x ≡ pack n (refused_at l n m inner set) → least n (both from x) ≡ unanswered_at l n m inner from set
  unfolding unanswered_at open_at refused_at both
  unanswered_both {x} e =
      least_same n (both from x) (open_at l n m inner from set)
      (λ j b. ap (λ (k : Bool). has from j && k) (ap (λ (y : ℕ). has y j) e ∙ has_pack_below n (refused_at l n m inner set) j b))
