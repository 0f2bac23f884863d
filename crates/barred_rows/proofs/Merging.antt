-- Rows merged with others: from an old row and the other row comes a change, and where it has a member it is put to the old row.
--
--   diff p q, put p c                == of one position: the change where the old row has it (p) and the other has it (q); the new row with change c
--   row_has l i o                    == row i has o
--   changed diff a b l i o           == the change of row i at o, where the old rows are those of l from b on and the others those from a on
--   Merged diff put n a b l m r      == the first n rows have been merged; r tells whether anything changed
--   merged_none, -skip, -next        : no row yet; one more, which nothing changes; one more, which changes
--   Merging diff put n a b t s i r   == a loop over n rows has merged i of them, from the words t to the words s
--   merging_start, -skip, -next, -end                    : its start, its turns and its end
--   gained, or_same, united; lost, and_same, met         : rows that are added, and rows that are kept
use Prim.Native.Nat.{ℕ, ◌+◌, ◌≤◌, ◌<◌}
use mathlib.Core.Path.{◌≡◌, refl, sym, ◌∙◌, ap}
use mathlib.Core.Bool.{Bool, true, false, ◌&&◌, ◌||◌, not}
use mathlib.Core.List.{List}
use mathlib.Core.Logic.{◌≢◌}
use native.Mathlib.Omega.{arith}
use native.Mathlib.Decide.{ℕ_discrete}
use lib.ListN.{length, get_or, set}
use Rattle.finite.proofs.Truth.{clash, and_left, and_right, not_true, or_none}
use Rattle.finite.specs.But.{ButFor}
use Rattle.finite.proofs.But.{but_self}
use Rattle.bits.specs.Member.{has}
use Rattle.bits.proofs.Membership.{has_zero_lem}
use Rattle.bits.proofs.Compare.{nonzero_member}
use Rattle.sets.specs.Words.{sets_in, set_count}
use Rattle.sets.proofs.Rows.{count_same, sets_long}
use Rattle.barred_rows.specs.Areas.{Beside, United, Met}
use Rattle.barred_rows.proofs.Rows.{apart_more, apart_last, beside_kept, here, there}

abbrev row_has : List ℕ → ℕ → ℕ → Bool
row_has l i o = has (get_or l i 0) o

abbrev changed : (Bool → Bool → Bool) → ℕ → ℕ → List ℕ → ℕ → ℕ → Bool
changed diff a b l i o = diff (row_has l (b + i) o) (row_has l (a + i) o)

pub record Merged (diff put : Bool → Bool → Bool) (n a b : ℕ) (l m : List ℕ) (r : Bool) : Type 0 where
  pub apart : ButFor b (b + n) l m
  pub row : (i o : ℕ) → i < n → row_has m (b + i) o ≡ put (row_has l (b + i) o) (changed diff a b l i o)
  pub some : r ≡ true → (i : ℕ) × (o : ℕ) × (i < n) × (changed diff a b l i o ≡ true)
  pub none : r ≡ false → (i o : ℕ) → i < n → changed diff a b l i o ≡ false

module _ (diff put : Bool → Bool → Bool) (keep : (p : Bool) → put p false ≡ p) where
  merged_none : (a b : ℕ) (l : List ℕ) → Merged diff put 0 a b l l false
  merged_none a b l = record {
    apart = but_self b (b + 0) l;
    row = λ i o h. absurd (omega arith);
    some = λ e. clash e refl;
    none = λ e i o h. absurd (omega arith);
  }

  module _ (n a b : ℕ) (B : Beside a b n) (l : List ℕ) (i : ℕ) (m : List ℕ) (r : Bool) (C : Merged diff put i a b l m r) (h : i < n) (old other change : ℕ)
      (x : old ≡ get_or m (b + i) 0) (y : other ≡ get_or m (a + i) 0) (d : (o : ℕ) → has change o ≡ diff (has old o) (has other o)) where
    before : get_or m (b + i) 0 ≡ get_or l (b + i) 0
    before = C.apart.high (b + i) (omega arith)

    old_is : (o : ℕ) → has old o ≡ row_has l (b + i) o
    old_is o = ap (λ (k : ℕ). has k o) (x ∙ before)

    other_is : (o : ℕ) → has other o ≡ row_has l (a + i) o
    other_is o = ap (λ (k : ℕ). has k o) (y ∙ beside_kept a b n i i l m B (omega arith) C.apart h)

    change_is : (o : ℕ) → has change o ≡ changed diff a b l i o
    change_is o = d o ∙ (λ k. diff (old_is o k) (other_is o k))

    merged_skip : change ≡ 0 → Merged diff put (i + 1) a b l m r
    merged_skip z = record {
      apart = apart_last b i l m C.apart;
      row = λ k o q. row k o q (ℕ_discrete k i);
      some = λ e. let w = C.some e in (w.0, w.1, omega (arith, w.2), w.3);
      none = λ e k o q. none e k o q (ℕ_discrete k i);
    }
      where
        still : (o : ℕ) → changed diff a b l i o ≡ false
        still o = sym (change_is o) ∙ ap (λ (k : ℕ). has k o) z ∙ has_zero_lem o

        row : (k o : ℕ) → k < i + 1 → Dec (k ≡ i) → row_has m (b + k) o ≡ put (row_has l (b + k) o) (changed diff a b l k o)
        row k o q (no e) = C.row k o (omega arith)
        row k o q (yes e) = rw e (ap (λ (k : ℕ). has k o) before ∙ sym (keep (row_has l (b + i) o)) ∙ ap (put (row_has l (b + i) o)) (sym (still o)))

        none : r ≡ false → (k o : ℕ) → k < i + 1 → Dec (k ≡ i) → changed diff a b l k o ≡ false
        none e k o q (no f) = C.none e k o (omega arith)
        none e k o q (yes f) = rw f (still o)

    merged_next : (v : ℕ) → ((o : ℕ) → has v o ≡ put (has old o) (has change o)) → change ≢ 0 → b + i < length m
        → Merged diff put (i + 1) a b l (set m (b + i) v) true
    merged_next v u ne long = record {
      apart = apart_more b i l m v C.apart;
      row = λ k o q. row k o q (ℕ_discrete k i);
      some = λ e. let w = nonzero_member change ne in (i, w.0, omega arith, sym (change_is w.0) ∙ w.1);
      none = λ e. clash refl e;
    }
      where
        row : (k o : ℕ) → k < i + 1 → Dec (k ≡ i) → row_has (set m (b + i) v) (b + k) o ≡ put (row_has l (b + k) o) (changed diff a b l k o)
        row k o q (no e) = ap (λ (c : ℕ). has c o) (there b i m v k e) ∙ C.row k o (omega arith)
        row k o q (yes e) = rw e (ap (λ (c : ℕ). has c o) (here b i m v long) ∙ u o ∙ (λ k. put (old_is o k) (change_is o k)))

-- ---- the loop

pub record Merging (diff put : Bool → Bool → Bool) (n a b : ℕ) (t s : List ℕ) (i : ℕ) (r : Bool) : Type 0 where
  pub within : i ≤ n
  pub long : length s ≡ length t
  pub held : 768 ≤ set_count s
  pub rows : Merged diff put i a b (sets_in t) (sets_in s) r

module _ {diff put : Bool → Bool → Bool} (keep : (p : Bool) → put p false ≡ p) where
  pub merging_start : (n a b : ℕ) (t : List ℕ) → 768 ≤ set_count t → Merging diff put n a b t t 0 false
  merging_start n a b t h = record { within = omega arith; long = refl; held = h; rows = merged_none diff put keep a b (sets_in t) }

  module _ {n a b : ℕ} {t s : List ℕ} {i : ℕ} {r : Bool} (D : Merging diff put n a b t s i r) (B : Beside a b n) (h : i < n) {old other change : ℕ}
      (x : old ≡ get_or (sets_in s) (b + i) 0) (y : other ≡ get_or (sets_in s) (a + i) 0) (d : (o : ℕ) → has change o ≡ diff (has old o) (has other o)) where
    pub merging_skip : change ≡ 0 → Merging diff put n a b t s (i + 1) r
    merging_skip z = record {
      within = omega arith;
      long = D.long;
      held = D.held;
      rows = merged_skip diff put keep n a b B (sets_in t) i (sets_in s) r D.rows h old other change x y d z;
    }

    pub merging_next : (v : ℕ) (w : List ℕ) → ((o : ℕ) → has v o ≡ put (has old o) (has change o)) → change ≢ 0 → b + n ≤ 768 → length w ≡ length s
        → sets_in w ≡ set (sets_in s) (b + i) v → Merging diff put n a b t w (i + 1) true
    merging_next v w u ne fits e q = record {
      within = omega arith;
      long = e ∙ D.long;
      held = omega (arith, D.held, count_same w s e);
      rows = rw q (merged_next diff put keep n a b B (sets_in t) i (sets_in s) r D.rows h old other change x y d v u ne
          (omega (arith, D.held, sets_long s)));
    }

pub merging_end : {diff put : Bool → Bool → Bool} {n a b : ℕ} {t s : List ℕ} {i : ℕ} {r : Bool} → Merging diff put n a b t s i r → n ≤ i
    → Merged diff put n a b (sets_in t) (sets_in s) r
merging_end {n = n} {i = i} D h = let w = D.within in let e : i ≡ n = omega arith in rw e at D.rows

-- ---- where a test holds and another does not, or where it goes beyond it nowhere

parted : (p q : Bool) → (p && not q) ≡ true → (p ≡ true) × (q ≡ false)
parted p q e = (and_left p (not q) e, not_true q (and_right p (not q) e))

beyond : (p q : Bool) → (p && not q) ≡ false → p ≡ true → q ≡ true
beyond true true e h = refl
beyond true false e h = sym e
beyond false q e h = clash h refl

-- ---- rows that are added

abbrev pub gained : Bool → Bool → Bool
gained p q = q && not p

pub or_same : (p : Bool) → (p || false) ≡ p
or_same p = or_none p refl

pub united : {n a b : ℕ} {l m : List ℕ} {r : Bool} → Merged gained ◌||◌ n a b l m r → United n a b l m r
united {a = a} {b} {l} M = record {
  apart = M.apart;
  row = λ i o h. M.row i o h ∙ cases (row_has l (b + i) o) (row_has l (a + i) o);
  some = λ e.
      let w = M.some e in
      let k = parted (row_has l (a + w.0) w.1) (row_has l (b + w.0) w.1) w.3 in
      (w.0, w.1, w.2, k.0, k.1);
  none = λ e i o h. beyond (row_has l (a + i) o) (row_has l (b + i) o) (M.none e i o h);
}
  where
    cases : (p q : Bool) → (p || (q && not p)) ≡ (p || q)
    cases true q = refl
    cases false true = refl
    cases false false = refl

-- ---- rows that are kept

abbrev pub lost : Bool → Bool → Bool
lost p q = p && not q

pub and_same : (p : Bool) → lost p false ≡ p
and_same true = refl
and_same false = refl

pub met : {n a b : ℕ} {l m : List ℕ} {r : Bool} → Merged lost lost n a b l m r → Met n a b l m r
met {a = a} {b} {l} M = record {
  apart = M.apart;
  row = λ i o h. M.row i o h ∙ cases (row_has l (b + i) o) (row_has l (a + i) o);
  some = λ e.
      let w = M.some e in
      let k = parted (row_has l (b + w.0) w.1) (row_has l (a + w.0) w.1) w.3 in
      (w.0, w.1, w.2, k.0, k.1);
  none = λ e i o h. beyond (row_has l (b + i) o) (row_has l (a + i) o) (M.none e i o h);
}
  where
    cases : (p q : Bool) → (p && not (p && not q)) ≡ (p && q)
    cases true true = refl
    cases true false = refl
    cases false q = refl
