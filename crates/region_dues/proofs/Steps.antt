-- What the functions' needs cite.
--
--   marked-*     : one component put into the sets of the requirements that it serves
--   kept-*       : the outputs that one requirement admits
--   narrowed-*   : those that some requirements admit, one after the other
use Prim.Native.Nat.{ℕ, ◌+◌, ◌≤◌, ◌<◌}
use native.Mathlib.Nat.{le_antisymm}
use native.Mathlib.Numerals.{add-one}
use native.Mathlib.Omega.{arith}
use native.Mathlib.Decide.{ℕ_discrete}
use mathlib.Core.Path.{◌≡◌, refl, sym, ◌∙◌, ap, subst}
use mathlib.Core.Bool.{Bool, true, false, not, ◌&&◌, ◌||◌}
use mathlib.Core.List.{List}
use lib.ListN.{length, get_or, set, length-set}
use lib.Seq.{get_or-set_same, get_or-set_other}
use Rattle.finite.proofs.Truth.{and_all}
use Rattle.finite.specs.Bounded.{all}
use Rattle.bits.specs.Member.{has}
use Rattle.region_dues.specs.Dues.{due_by, served_by, Marked, admits_by}

-- ---- one component

module _ (bd : List ℕ) (i c : ℕ) (x : List ℕ) where
  pub marked_start : Marked bd i 0 c x x
  marked_start = record { long = refl; done = λ q b. absurd (omega arith); rest = λ q b. refl }

  pub marked_next : (q : ℕ) (y z : List ℕ) (u v : ℕ) (ok : Bool) → q < length x → Marked bd i q c x y → u ≡ get_or y q 0 → ok ≡ served_by bd c (i + q)
      → ((t : ℕ) → has v t ≡ (has u t || (ok && has c t))) → z ≡ set y q v → Marked bd i (q + 1) c x z
  marked_next q y z u v ok b M a e h p = subst (Marked bd i (q + 1) c x) (sym p) (record {
    long = length-set y q v ∙ M.long;
    done = λ r k t. done r k t (ℕ_discrete r q);
    rest = λ r k. get_or-set_other y q r v 0 (omega arith) ∙ M.rest r (omega arith);
  })
    where
      new : (t : ℕ) → has (get_or (set y q v) q 0) t ≡ (has (get_or x q 0) t || (served_by bd c (i + q) && has c t))
      new t =
          ap (λ (w : ℕ). has w t) (get_or-set_same y q v 0 (omega (arith, M.long)))
          ∙ h t ∙ ap (λ (w : ℕ). has w t || (ok && has c t)) (a ∙ M.rest q (omega arith))
          ∙ ap (λ (w : Bool). has (get_or x q 0) t || (w && has c t)) e

      done : (r : ℕ) → r < q + 1 → (t : ℕ) → Dec (r ≡ q) → has (get_or (set y q v) r 0) t ≡ (has (get_or x r 0) t || (served_by bd c (i + r) && has c t))
      done r k t (yes w) = rw w (new t)
      done r k t (no w) = ap (λ (m : ℕ). has m t) (get_or-set_other y q r v 0 w) ∙ M.done r (omega arith) t

  pub marked_end : (q k : ℕ) (y : List ℕ) → q ≤ k → k ≤ q → Marked bd i q c x y → Marked bd i k c x y
  marked_end q k y a b M = subst (λ (z : ℕ). Marked bd i z c x y) (le_antisymm a b) M

-- ---- what is admitted

module _ {due : Bool} (x y : ℕ) where
  pub kept_due : (r : ℕ) → due ≡ true → ((d : ℕ) → has r d ≡ (has x d && has y d)) → (d : ℕ) → has r d ≡ (has x d && (not due || has y d))
  kept_due r e h d = rw e (h d)

  pub kept_free : due ≡ false → (d : ℕ) → has x d ≡ (has x d && (not due || has y d))
  kept_free e d = rw e (sym (and_all (has x d) refl))

module _ (bd : List ℕ) (i a x : ℕ) (t : List ℕ) where
  pub narrowed_start : (d : ℕ) → has x d ≡ (has x d && all 0 (admits_by bd i a t d))
  unfolding all
  narrowed_start d = sym (and_all (has x d) refl)

  pub narrowed_next : (q y z u : ℕ) (due : Bool) → due ≡ due_by bd a (i + q) → u ≡ get_or t q 0
      → ((d : ℕ) → has y d ≡ (has x d && all q (admits_by bd i a t d))) → ((d : ℕ) → has z d ≡ (has y d && (not due || has u d)))
      → (d : ℕ) → has z d ≡ (has x d && all (q + 1) (admits_by bd i a t d))
  unfolding all admits_by
  narrowed_next q y z u due e f h k d =
      rw add-one (k d ∙ ap (λ (b : Bool). has y d && (not b || has u d)) e ∙ ap (λ (w : ℕ). has y d && (not (due_by bd a (i + q)) || has w d)) f
      ∙ ap (λ (b : Bool). b && admits_by bd i a t d q) (h d) ∙ swap (has x d) (all q (admits_by bd i a t d)) (admits_by bd i a t d q))
    where
      swap : (u v w : Bool) → ((u && v) && w) ≡ (u && (w && v))
      swap true true true = refl
      swap true true false = refl
      swap true false true = refl
      swap true false false = refl
      swap false v w = refl

  pub narrowed_end : (q k y : ℕ) → q ≤ k → k ≤ q → ((d : ℕ) → has y d ≡ (has x d && all q (admits_by bd i a t d)))
      → (d : ℕ) → has y d ≡ (has x d && all k (admits_by bd i a t d))
  narrowed_end q k y u v h = subst (λ (z : ℕ). (d : ℕ) → has y d ≡ (has x d && all z (admits_by bd i a t d))) (le_antisymm u v) h
