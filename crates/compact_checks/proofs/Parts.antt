-- Laws of the loops.
use Prim.Native.Nat.{ℕ, ◌+◌, ◌-◌, ◌*◌, ◌≤◌, ◌<◌}
use mathlib.Core.Path.{◌≡◌, refl, sym, ◌∙◌, ap, ap₂, subst}
use mathlib.Core.Bool.{Bool, true, false, ◌&&◌, not}
use mathlib.Core.List.{List}
use mathlib.Core.Logic.{◌≢◌}
use native.Mathlib.Omega.{arith}
use lib.Dec.{ltb}
use lib.ListN.{length, get_or}
use borrow.Author.Tests.{eq-eqb, ne_eqb, lt-ltb, le-ltb, ltb-true, ltb-false}
use Rattle.finite.proofs.Truth.{clash, and_left, and_right, and_all, not_true}
use Rattle.finite.proofs.Loops.{all_start, all_turn, all_stop, all_end, all_longer}
use Rattle.bits.specs.Member.{has}
use Rattle.bits.proofs.Membership.{has_zero_lem}
use Rattle.sets.specs.Words.{capacity}
use Rattle.graph_ranks.proofs.Ranks.{Putting}
use Rattle.compact_checks.specs.Parts.{entry_fits, row_agrees, row_at, part_fits, Marked}

-- one row number

module _ (T F : List ℕ) (row part : ℕ) where
  pub row_start : true ≡ row_agrees T F row part 0
  unfolding row_agrees
  row_start = sym (all_start (entry_fits T F row part))

  pub row_same : (k : ℕ) {c : ℕ} {b : Bool} → c ≡ get_or F k 0 → get_or T (row + part + k) 0 ≡ get_or T (row + c) 0 → b ≡ row_agrees T F row part k
      → b ≡ row_agrees T F row part (k + 1)
  unfolding row_agrees entry_fits
  row_same k {c} q e h =
      h ∙ sym (all_longer k (entry_fits T F row part)
      (eq-eqb (get_or T (row + part + k) 0) (get_or T (row + get_or F k 0) 0) (e ∙ ap (λ (x : ℕ). get_or T (row + x) 0) q)))

  pub row_other : (k : ℕ) {c : ℕ} → c ≡ get_or F k 0 → get_or T (row + part + k) 0 ≢ get_or T (row + c) 0 → false ≡ row_agrees T F row part (k + 1)
  unfolding row_agrees entry_fits
  row_other k {c} q e =
      all_stop (k + 1) k (entry_fits T F row part) (omega arith)
      (ne_eqb (get_or T (row + part + k) 0) (get_or T (row + get_or F k 0) 0) (λ z. e (z ∙ ap (λ (x : ℕ). get_or T (row + x) 0) (sym q))))

  pub row_end : (n k : ℕ) {b : Bool} → k ≤ n → n ≤ k → b ≡ row_agrees T F row part k → b ≡ row_agrees T F row part n
  row_end n k {b} l h e = subst (λ (x : ℕ). b ≡ row_agrees T F row part x) (omega arith) e

-- all of them

module _ (T F : List ℕ) (I part n : ℕ) where
  pub part_start : part_fits T F I 0 part n ≡ true
  unfolding part_fits
  part_start = all_start (row_at T F I part n)

  pub part_turn : (x : ℕ) → row_agrees T F (I + x * I) part n ≡ true → part_fits T F I x part n ≡ true → part_fits T F I (x + 1) part n ≡ true
  unfolding part_fits row_at
  part_turn x e h = all_turn x (row_at T F I part n) h e

  pub part_stop : (R x : ℕ) → x < R → row_agrees T F (I + x * I) part n ≡ false → false ≡ part_fits T F I R part n
  unfolding part_fits row_at
  part_stop R x b e = all_stop R x (row_at T F I part n) b e

  pub part_end : (R x : ℕ) → x ≤ R → R ≤ x → part_fits T F I x part n ≡ true → true ≡ part_fits T F I R part n
  unfolding part_fits
  part_end R x a b h = all_end R x (row_at T F I part n) a b h

-- marks

-- the members of x among n inputs from part on
module _ (part n x high front low c : ℕ) (a : (t : ℕ) → has high t ≡ ltb t (part + n)) (b : (t : ℕ) → has front t ≡ (has x t && has high t))
    (d : (t : ℕ) → has low t ≡ ltb t part) (e : (t : ℕ) → has c t ≡ (has front t && not (has low t))) where
  pub part_in : (t : ℕ) → has c t ≡ true → (part ≤ t) × (t < part + n)
  part_in t i =
      let f = sym (b t) ∙ and_left (has front t) (not (has low t)) (sym (e t) ∙ i) in
      let o = not_true (has low t) (and_right (has front t) (not (has low t)) (sym (e t) ∙ i)) in
      (ltb-false t part (sym (d t) ∙ o), ltb-true t (part + n) (sym (a t) ∙ and_right (has x t) (has high t) f))

  pub part_same : (k : ℕ) → k < n → has c (part + k) ≡ has x (part + k)
  part_same k l =
      let t = part + k in
      e t
      ∙ ap₂ (λ (u v : Bool). u && not v) (b t ∙ ap (λ (u : Bool). has x t && u) (a t ∙ lt-ltb t (part + n) (omega arith)) ∙ and_all (has x t) refl)
      (d t ∙ le-ltb t part (omega arith))
      ∙ and_all (has x t) refl

-- the members of c have been named, each at its place in the part
module _ (part c n : ℕ) (fits : (t : ℕ) → has c t ≡ true → (part ≤ t) × (t < part + n)) where
  pub marking_apart : (t u : ℕ) → has c t ≡ true → has c u ≡ true → t - part ≡ u - part → t ≡ u
  marking_apart t u a b e = omega (arith, (fits t a).0, (fits u b).0)

  pub marking_fits : (l : List ℕ) → part + n ≤ capacity → n ≤ length l → (t : ℕ) → has c t ≡ true → (t < capacity) × (t - part < length l)
  marking_fits l few long t i = let w = fits t i in (omega (arith, w.1), omega (arith, w.0, w.1))

  pub marking_end : (s x : ℕ) (l m : List ℕ) (rest : ℕ) → ((k : ℕ) → k < n → has c (part + k) ≡ has x (part + k))
      → Putting (λ t. t - part) c s l m rest → rest ≡ 0 → Marked part n x s l m
  marking_end s x l m rest same P e = record {
    long = P.long;
    inside = λ k b i.
        ap (λ (y : ℕ). get_or m y 0) (omega arith)
        ∙ P.inside (part + k) (same k b ∙ i) (ap (λ (y : ℕ). has y (part + k)) e ∙ has_zero_lem (part + k));
    outside = λ k b i. P.outside k (λ t j q. clash (ap (has c) (own k t j q) ∙ j) (same k b ∙ i));
    ahead = λ k b. P.outside k (λ t j q. absurd (omega (arith, (fits t j).0, (fits t j).1)));
  }
    where
      own : (k t : ℕ) → has c t ≡ true → k ≡ t - part → part + k ≡ t
      own k t j q = omega (arith, (fits t j).0)
