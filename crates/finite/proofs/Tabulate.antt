-- Laws of tabulated lists.
use Prim.Native.Nat.{ℕ, zero, suc, ◌+◌, ◌≤◌, ◌<◌}
use native.Mathlib.Nat.{zero-add, add-zero}
use mathlib.Core.Path.{◌≡◌, refl, sym, ◌∙◌, ap, subst}
use mathlib.Core.Bool.{Bool, true}
use native.Mathlib.Omega.{arith}
use lib.ListN.{length, get_or}
use lib.Seq.{ext_get_or}
use Rattle.finite.specs.Bounded.{all}
use Rattle.finite.specs.Lists.{all_of}
use Rattle.finite.specs.Tabulate.{tabulate_from, tabulate}
use Rattle.finite.proofs.Truth.{and_intro, and_left, and_right, same_test}
use Rattle.finite.proofs.Bounded.{all_intro, all_elim}

module _ {A : Type 0} (f : ℕ → A) where
  length_tabulate_from : (k n : ℕ) → length (tabulate_from k n f) ≡ n
  unfolding tabulate_from
  length_tabulate_from k zero = refl
  length_tabulate_from k (suc n) = ap suc (length_tabulate_from (suc k) n)

  get_or_tabulate_from : (k n i : ℕ) (d : A) → i < n → get_or (tabulate_from k n f) i d ≡ f (k + i)
  unfolding tabulate_from
  get_or_tabulate_from k zero i d h = absurd (omega arith)
  get_or_tabulate_from k (suc n) zero d h = ap f (sym (add-zero k))
  get_or_tabulate_from k (suc n) (suc i) d h =
      get_or_tabulate_from (suc k) n i d (omega arith) ∙ ap f (omega arith)

  get_or_tabulate_from_past : (k n i : ℕ) (d : A) → n ≤ i → get_or (tabulate_from k n f) i d ≡ d
  unfolding tabulate_from
  get_or_tabulate_from_past k zero i d h = refl
  get_or_tabulate_from_past k (suc n) zero d h = absurd (omega arith)
  get_or_tabulate_from_past k (suc n) (suc i) d h = get_or_tabulate_from_past (suc k) n i d (omega arith)

  pub length_tabulate : (n : ℕ) → length (tabulate n f) ≡ n
  unfolding tabulate
  length_tabulate n = length_tabulate_from zero n

  pub get_d_tabulate : (n i : ℕ) (d : A) → i < n → get_or (tabulate n f) i d ≡ f i
  unfolding tabulate
  get_d_tabulate n i d h = get_or_tabulate_from zero n i d h ∙ ap f (zero-add i)

  pub get_or_tabulate_past : (n i : ℕ) (d : A) → n ≤ i → get_or (tabulate n f) i d ≡ d
  unfolding tabulate
  get_or_tabulate_past n i d h = get_or_tabulate_from_past zero n i d h

-- a test of every element of a tabulated list

from_elim : {A : Type 0} (p : A → Bool) (f : ℕ → A) (s n : ℕ) → all_of p (tabulate_from s n f) ≡ true → (k : ℕ) → k < n → p (f (s + k)) ≡ true
unfolding all_of tabulate_from
from_elim p f s zero h k b = absurd (omega arith)
from_elim p f s (suc n) h zero b = subst (λ (j : ℕ). p (f j) ≡ true) (sym (add-zero s)) (and_left (p (f s)) (all_of p (tabulate_from (suc s) n f)) h)
from_elim p f s (suc n) h (suc k) b =
    subst (λ (j : ℕ). p (f j) ≡ true) (omega arith)
    (from_elim p f (suc s) n (and_right (p (f s)) (all_of p (tabulate_from (suc s) n f)) h) k (omega arith))

from_intro : {A : Type 0} (p : A → Bool) (f : ℕ → A) (s n : ℕ) → ((k : ℕ) → k < n → p (f (s + k)) ≡ true) → all_of p (tabulate_from s n f) ≡ true
unfolding all_of tabulate_from
from_intro p f s zero h = refl
from_intro p f s (suc n) h =
    and_intro (subst (λ (j : ℕ). p (f j) ≡ true) (add-zero s) (h 0 (omega arith)))
    (from_intro p f (suc s) n (λ k b. subst (λ (j : ℕ). p (f j) ≡ true) (omega arith) (h (suc k) (omega arith))))

pub all_of_tabulate : {A : Type 0} (p : A → Bool) (n : ℕ) (f : ℕ → A) → all_of p (tabulate n f) ≡ all n (λ k. p (f k))
unfolding tabulate
all_of_tabulate p n f =
    same_test (all_of p (tabulate_from 0 n f)) (all n (λ k. p (f k)))
    (λ h. all_intro n (λ k. p (f k)) (λ k b. subst (λ (j : ℕ). p (f j) ≡ true) (zero-add k) (from_elim p f 0 n h k b)))
    (λ h. from_intro p f 0 n (λ k b. subst (λ (j : ℕ). p (f j) ≡ true) (sym (zero-add k)) (all_elim n (λ k. p (f k)) h k b)))

-- lists made from functions that agree
pub same_tabulate : (n : ℕ) (f h : ℕ → ℕ) → ((i : ℕ) → i < n → f i ≡ h i) → tabulate n f ≡ tabulate n h
same_tabulate n f h e =
    ext_get_or 0 (tabulate n f) (tabulate n h) (length_tabulate f n ∙ sym (length_tabulate h n))
    (λ i b. let k : i < n = omega (arith, length_tabulate f n) in get_d_tabulate f n i 0 k ∙ e i k ∙ sym (get_d_tabulate h n i 0 k))
