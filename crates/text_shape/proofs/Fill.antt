-- Lists that are filled from the front, with d where nothing is stored yet.
use Prim.Native.Nat.{ℕ, suc, ◌≤◌, ◌<◌}
use native.Mathlib.Omega.{arith}
use mathlib.Core.List.{List}
use mathlib.Core.Path.{◌≡◌, sym, ◌∙◌, ap}
use lib.Arith.{lt_of_le-ne}
use lib.Dec.{eqb, leb}
use lib.ListN.{length, get_or, set, length-set, replicate, get_or-replicate, get_or-eq_default, length-replicate}
use lib.Seq.{get_or-set_same, get_or-set_other, ext_get_or}
use borrow.Author.Tests.{eqb-true, eqb-false, leb-true, leb-false}
use Rattle.text_grammar.proofs.Format.{by_cases}

-- ys has what xs has below n
pub record Upto {A : Type 0} (d : A) (n : ℕ) (xs ys : List A) : Type 0 where
  pub same_length : length xs ≡ length ys
  pub below : (i : ℕ) → i < n → get_or xs i d ≡ get_or ys i d

-- nothing is stored from n on
abbrev pub Blank : {A : Type 0} → A → ℕ → List A → Type 0
Blank d n xs = (i : ℕ) → n ≤ i → get_or xs i d ≡ d

module _ {A : Type 0} (d : A) where
  pub blank_replicate : (n m : ℕ) → Blank d n (replicate m d)
  blank_replicate n m i l =
      by_cases (leb m i)
      (λ b. get_or-eq_default (replicate m d) d (subst_le m i (leb-true m i b)))
      (λ b. get_or-replicate m i d d (leb-false m i b))
    where
      subst_le : (m i : ℕ) → m ≤ i → length (replicate m d) ≤ i
      subst_le m i l = omega (arith, length-replicate m d)

  pub blank_step : (n : ℕ) (xs : List A) (x : A) → Blank d n xs → Blank d (suc n) (set xs n x)
  blank_step n xs x h i l = get_or-set_other xs n i x d (λ (e : i ≡ n). omega arith) ∙ h i (omega arith)

  pub fill_none : (m : ℕ) (ys : List A) → length ys ≡ m → Upto d 0 (replicate m d) ys
  fill_none m ys h = record { same_length = length-replicate m d ∙ sym h; below = λ i l. absurd (omega arith) }

  pub fill_step : (n : ℕ) (xs ys : List A) (x : A) → n < length xs → x ≡ get_or ys n d → Upto d n xs ys → Upto d (suc n) (set xs n x) ys
  fill_step n xs ys x h e u =
      record {
        same_length = length-set xs n x ∙ u.same_length;
        below = λ i l. by_cases (eqb i n)
            (λ b. let f = eqb-true i n b in ap (λ (j : ℕ). get_or (set xs n x) j d) f ∙ get_or-set_same xs n x d h ∙ e ∙ ap (λ (j : ℕ). get_or ys j d) (sym f))
            (λ b. let f = eqb-false i n b in get_or-set_other xs n i x d f ∙ u.below i (lt_of_le-ne (omega arith) f));
      }

  pub fill_back : (n : ℕ) (xs ys : List A) (x : A) → n < length xs → Upto d (suc n) (set xs n x) ys → Upto d n xs ys × (get_or ys n d ≡ x)
  fill_back n xs ys x h u = (
    record {
      same_length = sym (length-set xs n x) ∙ u.same_length;
      below = λ i l. sym (get_or-set_other xs n i x d (λ (e : i ≡ n). omega arith)) ∙ u.below i (omega arith);
    },
    sym (u.below n (omega arith)) ∙ get_or-set_same xs n x d h,
  )

  pub fill_end : (n : ℕ) (xs ys : List A) → Upto d n xs ys → Blank d n xs → Blank d n ys → xs ≡ ys
  fill_end n xs ys u p q =
      ext_get_or d xs ys u.same_length (λ i l. by_cases (leb n i)
      (λ b. p i (leb-true n i b) ∙ sym (q i (leb-true n i b)))
      (λ b. u.below i (leb-false n i b)))
