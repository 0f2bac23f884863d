-- Laws of a sweep: rows only grow, take in the rows of their members, and stay inside what is transitive. A sweep adds nothing exactly where
-- every row holds the rows of its members.
use Prim.Native.Nat.{ℕ, zero, suc, ◌+◌, ◌≤◌, ◌<◌}
use mathlib.Core.Path.{◌≡◌, refl, sym, ◌∙◌, ap}
use mathlib.Core.Bool.{Bool, true, false, not, ◌||◌}
use mathlib.Core.List.{List}
use mathlib.Core.Logic.{◌≢◌}
use native.Mathlib.Numerals.{add-one}
use native.Mathlib.Decide.{ℕ_discrete}
use native.Mathlib.Omega.{arith}
use lib.Dec.{eqb}
use lib.ListN.{length, get_or, set, drop, length-set}
use lib.Seq.{get_or-set_same, get_or-set_other, set-get_or, drop-set-lt}
use borrow.Author.Tests.{eqb-true, eq-eqb, ne_eqb}
use Rattle.finite.proofs.Truth.{clash, or_right, or_false, or_false_left, or_false_right, not_false, or_none}
use Rattle.bits.specs.Member.{has}
use Rattle.bits.proofs.Membership.{has_zero_lem}
use Rattle.graphs.specs.Rows.{rel}
use Rattle.graph_closure.specs.Sweep.{grown, swept, adds, Fixed, Swept}
use Rattle.graph_closure.proofs.Growth.{grown_keeps, grown_takes, grown_sound, grown_same}

rel_same : (m : List ℕ) (s v u : ℕ) → s < length m → rel (set m s v) s u ≡ has v u
unfolding rel
rel_same m s v u h = ap (λ (x : ℕ). has x u) (get_or-set_same m s v 0 h)

rel_other : (m : List ℕ) (s v a u : ℕ) → a ≢ s → rel (set m s v) a u ≡ rel m a u
unfolding rel
rel_other m s v a u ne = ap (λ (x : ℕ). has x u) (get_or-set_other m s a v 0 ne)

-- ---- a set that holds the rows of its members

pub fixed_none : (l : List ℕ) (n x : ℕ) → x ≡ 0 → Fixed l n x
fixed_none l n x z = record { rows = λ t u b h r. clash h (ap (λ (v : ℕ). has v t) z ∙ has_zero_lem t) }

pub fixed_same : (l : List ℕ) (n x y : ℕ) → x ≡ y → Fixed l n y → x ≡ grown l n x
fixed_same l n x y e F =
    e ∙ sym (grown_same l n y F.rows) ∙ ap (grown l n) (sym e)

pub fixed_now : (l : List ℕ) (n old new : ℕ) → new ≡ grown l n old → new ≡ old → Fixed l n old
fixed_now l n old new e q = record { rows = λ t u b h r. ap (λ (v : ℕ). has v u) (sym q ∙ e) ∙ grown_takes l n old t u b h r }

-- it stays so where one of its members takes in the rows of that one's members
pub fixed_put : (l : List ℕ) (n x s old v : ℕ) → s < n → s < length l → old ≡ get_or l s 0 → v ≡ grown l n old → Fixed l n x → Fixed (set l s v) n x
unfolding rel
fixed_put l n x s old v b c e q F = record { rows = λ t u a h r. at t u a h r (ℕ_discrete t s) }
  where
    at : (t u : ℕ) → t < n → has x t ≡ true → rel (set l s v) t u ≡ true → Dec (t ≡ s) → has x u ≡ true
    at t u a h r (yes k) =
        let here : has x s ≡ true = ap (has x) (sym k) ∙ h in
        let m : rel (set l s v) s u ≡ true = ap (λ (w : ℕ). rel (set l s v) w u) (sym k) ∙ r in
        grown_sound l (has x) n F.rows old (λ w g. F.rows s w b here (ap (λ (z : ℕ). has z w) (sym e) ∙ g)) u
        (ap (λ (z : ℕ). has z u) (sym q) ∙ sym (rel_same l s v u c) ∙ m)
    at t u a h r (no k) = F.rows t u a h (sym (rel_other l s v t u k) ∙ r)

module _ (n : ℕ) (l : List ℕ) where
  -- row s as a sweep leaves it
  after : ℕ → ℕ
  after s = grown (swept n l s) n (get_or (swept n l s) s 0)

  swept_suc : (s : ℕ) → swept n l (suc s) ≡ set (swept n l s) s (after s)
  unfolding swept after
  swept_suc s = refl

  pub swept_length : (s : ℕ) → length (swept n l s) ≡ length l
  unfolding swept
  swept_length zero = refl
  swept_length (suc s) = length-set (swept n l s) s (grown (swept n l s) n (get_or (swept n l s) s 0)) ∙ swept_length s

  pub swept_rest : (s : ℕ) → s ≤ n → drop n (swept n l s) ≡ drop n l
  unfolding swept
  swept_rest zero h = refl
  swept_rest (suc s) h =
      drop-set-lt n (swept n l s) s (grown (swept n l s) n (get_or (swept n l s) s 0)) h ∙ swept_rest s (omega arith)

  at_same : (s u : ℕ) → s < length l → rel (swept n l (suc s)) s u ≡ has (after s) u
  at_same s u h = rw swept_suc (rel_same (swept n l s) s (after s) u (omega (arith, swept_length s)))

  at_other : (s a u : ℕ) → a ≢ s → rel (swept n l (suc s)) a u ≡ rel (swept n l s) a u
  at_other s a u ne = rw swept_suc (rel_other (swept n l s) s (after s) a u ne)

  -- the rows only grow
  pub swept_keeps : (s a u : ℕ) → s ≤ length l → rel l a u ≡ true → rel (swept n l s) a u ≡ true
  unfolding swept rel after
  swept_keeps zero a u b h = h
  swept_keeps (suc s) a u b h = go (ℕ_discrete a s) (swept_keeps s a u (omega arith) h)
    where
      go : Dec (a ≡ s) → rel (swept n l s) a u ≡ true → rel (swept n l (suc s)) a u ≡ true
      go (yes e) m = rw e (at_same s u b ∙ grown_keeps (swept n l s) n (get_or (swept n l s) s 0) u (rw e at m))
      go (no ne) m = at_other s a u ne ∙ m

  -- a row below s holds the rows of its members
  pub swept_takes : (s a t u : ℕ) → s ≤ length l → a < s → t < n → rel l a t ≡ true → rel l t u ≡ true → rel (swept n l s) a u ≡ true
  unfolding rel after
  swept_takes zero a t u b c d h k = absurd (omega arith)
  swept_takes (suc s) a t u b c d h k = go (ℕ_discrete a s) (swept_takes s a t u (omega arith))
    where
      go : Dec (a ≡ s) → (a < s → t < n → rel l a t ≡ true → rel l t u ≡ true → rel (swept n l s) a u ≡ true) → rel (swept n l (suc s)) a u ≡ true
      go (yes e) rec =
          rw e
          (at_same s u b
          ∙ grown_takes (swept n l s) n (get_or (swept n l s) s 0) t u d
          (rw e at (swept_keeps s a t (omega arith) h)) (swept_keeps s t u (omega arith) k))
      go (no ne) rec = at_other s a u ne ∙ rec (omega arith) d h k

  -- a transitive relation that holds of the rows holds of them after a sweep
  pub swept_sound : (r : ℕ → ℕ → Bool) → ((a b c : ℕ) → r a b ≡ true → r b c ≡ true → r a c ≡ true) → n ≤ length l
      → ((a u : ℕ) → a < n → rel l a u ≡ true → r a u ≡ true) → (s : ℕ) → s ≤ n
      → (a u : ℕ) → a < n → rel (swept n l s) a u ≡ true → r a u ≡ true
  unfolding swept rel after
  swept_sound r trans long h zero b a u c m = h a u c m
  swept_sound r trans long h (suc s) b a u c m = go (ℕ_discrete a s) (swept_sound r trans long h s (omega arith))
    where
      go : Dec (a ≡ s) → ((d v : ℕ) → d < n → rel (swept n l s) d v ≡ true → r d v ≡ true) → r a u ≡ true
      go (yes e) rec =
          rw e
          (grown_sound (swept n l s) (r s) n (λ t v d p q. trans s t v p (rec t v d q))
          (get_or (swept n l s) s 0) (λ v q. rec s v b q) u (sym (at_same s u (omega arith)) ∙ rw e at m))
      go (no ne) rec = rec a u c (sym (at_other s a u ne) ∙ m)

-- ---- a sweep that adds nothing

-- the rows below s of l hold the rows of their members
pub record Still (n : ℕ) (l : List ℕ) (s : ℕ) : Type 0 where
  pub rows : (a t u : ℕ) → a < s → t < n → rel l a t ≡ true → rel l t u ≡ true → rel l a u ≡ true

module _ (n : ℕ) (l : List ℕ) where
  same_row : (m : List ℕ) (s : ℕ) → swept n l s ≡ m → after n l s ≡ grown m n (get_or m s 0)
  unfolding after
  same_row m s e = ap (λ (k : List ℕ). grown k n (get_or k s 0)) e

  adds_suc : (s : ℕ) → adds n l (suc s) ≡ (adds n l s || not (eqb (after n l s) (get_or (swept n l s) s 0)))
  unfolding adds after
  adds_suc s = refl

  -- nothing was added: the rows are as they were
  pub none_same : (s : ℕ) → adds n l s ≡ false → swept n l s ≡ l
  unfolding swept
  none_same zero h = refl
  none_same (suc s) h =
      let both = sym (adds_suc s) ∙ h in
      let old = get_or (swept n l s) s 0 in
      let row : after n l s ≡ old = eqb-true (after n l s) old
      (not_false (eqb (after n l s) old) (or_false_right (adds n l s) (not (eqb (after n l s) old)) both)) in
      swept_suc n l s ∙ ap (set (swept n l s) s) row ∙ set-get_or (swept n l s) s 0 ∙ none_same s (or_false_left (adds n l s) (not (eqb (after n l s) old)) both)

  pub none_still : (s : ℕ) → s ≤ length l → adds n l s ≡ false → Still n l s
  none_still s b h = record { rows = λ a t u c d p q. rw (none_same s h) at (swept_takes n l s a t u b c d p q) }

  pub still_none : (s : ℕ) → Still n l s → adds n l s ≡ false
  unfolding adds rel
  still_none zero st = refl
  still_none (suc s) st =
      let rest = still_none s (record { rows = λ a t u c. st.rows a t u (omega arith) }) in
      let same = none_same s rest in
      let row : after n l s ≡ get_or (swept n l s) s 0 =
      same_row l s same ∙ grown_same l n (get_or l s 0) (λ t u d p q. st.rows s t u (omega arith) d p q)
      ∙ ap (λ (k : List ℕ). get_or k s 0) (sym same) in
      adds_suc s ∙ or_false rest (ap not (eq-eqb (after n l s) (get_or (swept n l s) s 0) row))

-- ---- the turns of `sweep`

module _ (n : ℕ) (l : List ℕ) where
  pub swept_start : Swept n l 0 l false
  unfolding swept adds
  swept_start = record { rows = refl; added = refl }

  -- row s of m, and what a sweep makes of it
  module _ {m : List ℕ} {b : Bool} (s : ℕ) {old new : ℕ} (h : Swept n l s m b) (e : old ≡ get_or m s 0) (g : new ≡ grown m n old) where
    at_old : get_or (swept n l s) s 0 ≡ old
    at_old = ap (λ (k : List ℕ). get_or k s 0) (sym h.rows) ∙ sym e

    at_new : after n l s ≡ new
    at_new = same_row n l m s (sym h.rows) ∙ ap (grown m n) (sym e) ∙ sym g

    next_rows : set m s new ≡ swept n l (s + 1)
    next_rows =
        ap (λ (k : List ℕ). set k s new) h.rows ∙ ap (set (swept n l s) s) (sym at_new) ∙ sym (swept_suc n l s)
        ∙ ap (swept n l) (sym (add-one s))

    next_adds : (adds n l s || not (eqb new old)) ≡ adds n l (s + 1)
    next_adds =
        ap (λ (k : ℕ). adds n l s || not (eqb k old)) (sym at_new)
        ∙ ap (λ (k : ℕ). adds n l s || not (eqb (after n l s) k)) (sym at_old)
        ∙ sym (adds_suc n l s) ∙ ap (adds n l) (sym (add-one s))

    pub swept_grew : (new ≡ old → ⊥) → Swept n l (s + 1) (set m s new) true
    swept_grew ne = record {
      rows = next_rows;
      added = sym (or_right (adds n l s) (ap not (ne_eqb new old ne))) ∙ next_adds;
    }

    pub swept_kept : new ≡ old → Swept n l (s + 1) m b
    swept_kept same = record {
      rows = sym (ap (set m s) (same ∙ e) ∙ set-get_or m s 0) ∙ next_rows;
      added = h.added ∙ sym (or_none (adds n l s) refl) ∙ ap (λ (c : Bool). adds n l s || c) (sym (ap not (eq-eqb new old same))) ∙ next_adds;
    }
