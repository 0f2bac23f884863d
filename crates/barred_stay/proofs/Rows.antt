-- Single rows of what is staying.
--
--   target_told                : the target, from the three rows that it is made of
--   row_same, row_waited, row_left    : one row has been shrunk
--   shrunk_none, shrunk_later, shrunk_skip, shrunk_next, shrunk_end    : row after row
use Prim.Native.Nat.{ℕ, ◌+◌, ◌≤◌, ◌<◌}
use mathlib.Core.Path.{◌≡◌, refl, sym, ◌∙◌, ap, subst}
use mathlib.Core.Bool.{Bool, true, false, ◌&&◌, ◌||◌, not}
use mathlib.Core.List.{List}
use mathlib.Core.Logic.{◌⊎◌, inl, inr, ◌≢◌}
use native.Mathlib.Omega.{arith}
use native.Mathlib.Decide.{ℕ_discrete}
use lib.Dec.{eqb, ltb}
use lib.ListN.{length, get_or, set}
use lib.Seq.{get_or-set_same}
use borrow.Author.Tests.{eqb-true, eq-eqb, ltb-true, ltb-false}
use Rattle.finite.proofs.Truth.{decide, clash, and_intro, and_left, and_right, and_false_right, or_right, or_cases, or_false_left, not_true, same_test}
use Rattle.finite.proofs.But.{but_self, but_then, but_wider}
use Rattle.bits.specs.Member.{has}
use Rattle.bits.proofs.Membership.{has_zero_lem}
use Rattle.bits.proofs.Compare.{nonzero_member}
use Rattle.barred.specs.Region.{barred_target}
use Rattle.barred_rows.specs.Areas.{kept_pairs, reached_pairs, staying_pairs, staying_at}
use Rattle.barred_rows.proofs.Rows.{apart_set}
use Rattle.barred_stay.specs.Stay.{RowShrunk, Shrunk}

-- ---- the target

pub target_told : (l : List ℕ) (j v w z y x a b r : ℕ) {k : Bool} → z ≡ get_or l j 0 → y ≡ get_or l (128 + j) 0 → x ≡ get_or l (640 + j) 0 → k ≡ has w j
    → ((p : ℕ) → has a p ≡ (has v p && has z p)) → ((p : ℕ) → has b p ≡ (has y p || (not k && has x p)))
    → ((p : ℕ) → has r p ≡ (has a p || has b p))
    → (p : ℕ) → has r p ≡ barred_target (has v) (has w) (kept_pairs l) (reached_pairs l) (staying_pairs l) j p
unfolding barred_target
target_told l j v w z y x a b r ez ey ex ek ea eb er p = rw (er p, ea p, eb p, ez, ey, ex, ek) refl

-- ---- one row

module _ (l : List ℕ) (i r w x old lost : ℕ) (read : old ≡ get_or l (staying_at + i) 0) (d : (o : ℕ) → has lost o ≡ (has old o && not (has r o))) where
  here : (o : ℕ) → staying_pairs l i o ≡ has old o
  here o = ap (λ (k : ℕ). has k o) (sym read)

  pub row_same : lost ≡ 0 → RowShrunk i r w x x l l
  row_same z = record {
    apart = but_self (staying_at + i) (staying_at + i + 1) l;
    row = λ o. same_test (staying_pairs l i o) (staying_pairs l i o && has r o) (λ t. and_intro t (allowed o t)) (λ t. and_left (staying_pairs l i o) (has r o) t);
    more = λ k h. inl h;
    done = λ k h. (h, λ q u o s. allowed o s);
  }
    where
      allowed : (o : ℕ) → staying_pairs l i o ≡ true → has r o ≡ true
      allowed o t =
          elim (decide (has r o)) [
            | inl u ↦ u
            | inr f ↦ clash (d o ∙ and_intro (sym (here o) ∙ t) (ap not f)) (ap (λ (k : ℕ). has k o) z ∙ has_zero_lem o)
          ]

  module _ (new : ℕ) (cut : (o : ℕ) → has new o ≡ (has old o && not (has lost o))) (long : staying_at + i < length l) where
    abbrev m : List ℕ
    m = set l (staying_at + i) new

    row : (o : ℕ) → staying_pairs m i o ≡ (staying_pairs l i o && has r o)
    row o = ap (λ (k : ℕ). has k o) (get_or-set_same l (staying_at + i) new 0 long) ∙ cut o ∙ left (has old o) (has r o) (d o)
        ∙ ap (λ (b : Bool). b && has r o) (sym (here o))
      where
        left : (p q : Bool) {v : Bool} → v ≡ (p && not q) → (p && not v) ≡ (p && q)
        left true true e = rw e refl
        left true false e = rw e refl
        left false q e = refl

    pub row_waited : has w i ≡ true → RowShrunk i r w x x l m
    row_waited u = record {
      apart = apart_set l (staying_at + i) new;
      row = row;
      more = λ k h. inl h;
      done = λ k h. (h, λ q v. clash u v);
    }

    pub row_left : lost ≢ 0 → (x' : ℕ) → ((t : ℕ) → has x' t ≡ (has x t || eqb t i)) → has w i ≡ false → RowShrunk i r w x x' l m
    row_left ne x' e u = record {
      apart = apart_set l (staying_at + i) new;
      row = row;
      more = λ k h. elim (or_cases (has x k) (eqb k i) (sym (e k) ∙ h)) [ inl a ↦ inl a | inr b ↦ inr (eqb-true k i b, taken) ];
      done = λ k h. (or_false_left (has x k) (eqb k i) (sym (e k) ∙ h), λ q v. clash (e k ∙ or_right (has x k) (eq-eqb k i q)) h);
    }
      where
        -- some output has been taken out
        taken : (o : ℕ) × (staying_pairs l i o ≡ true) × (staying_pairs m i o ≡ false)
        taken =
            let v = nonzero_member lost ne in
            let t = sym (d v.0) ∙ v.1 in (
              v.0,
              here v.0 ∙ and_left (has old v.0) (not (has r v.0)) t,
              row v.0 ∙ and_false_right (staying_pairs l i v.0) (not_true (has r v.0) (and_right (has old v.0) (not (has r v.0)) t)),
            )

-- ---- row after row

module _ (rows : List ℕ) (j r w x : ℕ) (l : List ℕ) where
  pub shrunk_none : Shrunk rows 0 j r w x x l l
  shrunk_none = record {
    apart = but_self staying_at (staying_at + 0) l;
    row = λ i o b. absurd (omega arith);
    more = λ k h. inl h;
    done = λ k h. (h, λ u o s. s);
  }

  module _ (i y : ℕ) (m : List ℕ) (T : Shrunk rows i j r w x y l m) where
    -- the rows from i on are as they were
    shrunk_later : (k o : ℕ) → i ≤ k → staying_pairs m k o ≡ staying_pairs l k o
    shrunk_later k o b = ap (λ (a : ℕ). has a o) (T.apart.high (staying_at + k) (omega arith))

    pub shrunk_skip : has (get_or rows i 0) j ≡ false → Shrunk rows (i + 1) j r w x y l m
    shrunk_skip f = record {
      apart = but_wider staying_at (staying_at + (i + 1)) (omega arith) (omega arith) T.apart;
      row = λ k o b. row k o b (ℕ_discrete k i);
      more = λ k h. elim (T.more k h) [ inl a ↦ inl a | inr v ↦ inr (omega (arith, v.0), v.1) ];
      done = T.done;
    }
      where
        row : (k o : ℕ) → k < i + 1 → Dec (k ≡ i) → staying_pairs m k o ≡ (staying_pairs l k o && (not (has (get_or rows k 0) j) || has r o))
        row k o b (no e) = T.row k o (omega arith)
        row k o b (yes e) =
            shrunk_later k o (omega arith)
            ∙ sym (and_all (staying_pairs l k o) (has r o) (ap (λ (t : ℕ). has (get_or rows t 0) j) e ∙ f))
          where
            and_all : (a b : Bool) {c : Bool} → c ≡ false → (a && (not c || b)) ≡ a
            and_all true b e = rw e refl
            and_all false b e = refl

    module _ (y' : ℕ) (m' : List ℕ) (t : has (get_or rows i 0) j ≡ true) (R : RowShrunk i r w y y' m m') where
      -- another row is as it was
      other : (k o : ℕ) → k ≢ i → staying_pairs m' k o ≡ staying_pairs m k o
      other k o e =
          elim (decide (ltb k i)) [
            | inl b ↦ ap (λ (a : ℕ). has a o) (R.apart.low (staying_at + k) (omega (arith, ltb-true k i b)))
            | inr b ↦ ap (λ (a : ℕ). has a o) (R.apart.high (staying_at + k) (omega (arith, ltb-false k i b, e)))
          ]

      pub shrunk_next : Shrunk rows (i + 1) j r w x y' l m'
      shrunk_next = record {
        apart = but_then (but_wider staying_at (staying_at + (i + 1)) (omega arith) (omega arith) T.apart)
            (but_wider staying_at (staying_at + (i + 1)) (omega arith) (omega arith) R.apart);
        row = λ k o b. row k o b (ℕ_discrete k i);
        more = λ k h. more k (R.more k h);
        done = λ k h. done k (R.done k h);
      }
        where
          row : (k o : ℕ) → k < i + 1 → Dec (k ≡ i) → staying_pairs m' k o ≡ (staying_pairs l k o && (not (has (get_or rows k 0) j) || has r o))
          row k o b (no e) = other k o e ∙ T.row k o (omega arith)
          row k o b (yes e) =
              rw e (R.row o ∙ ap (λ (a : Bool). a && has r o) (shrunk_later i o (omega arith))
              ∙ ap (λ (a : Bool). staying_pairs l i o && (not a || has r o)) (sym t))

          more : (k : ℕ) → (has y k ≡ true) ⊎ ((k ≡ i) × ((o : ℕ) × (staying_pairs m i o ≡ true) × (staying_pairs m' i o ≡ false)))
              → (has x k ≡ true) ⊎ ((k < i + 1) × ((o : ℕ) × (staying_pairs l k o ≡ true) × (staying_pairs m' k o ≡ false)))
          more k (inl h) =
              elim (T.more k h) [
                | inl a ↦ inl a
                | inr v ↦ inr (omega (arith, v.0), (v.1.0, v.1.1, other k v.1.0 (λ e. absurd (omega (arith, v.0))) ∙ v.1.2))
              ]
          more k (inr v) =
              inr (
                omega (arith, v.0),
                (
                  v.1.0,
                  ap (λ (a : ℕ). staying_pairs l a v.1.0) v.0 ∙ sym (shrunk_later i v.1.0 (omega arith)) ∙ v.1.1,
                  ap (λ (a : ℕ). staying_pairs m' a v.1.0) v.0 ∙ v.1.2,
                ),
              )

          done : (k : ℕ) → (has y k ≡ false) × (k ≡ i → has w i ≡ false → (o : ℕ) → staying_pairs m i o ≡ true → has r o ≡ true)
              → (has x k ≡ false) × (has w k ≡ false → (o : ℕ) → staying_pairs l k o ≡ true → staying_pairs m' k o ≡ true)
          done k v = let d = T.done k v.0 in (d.0, λ u o s. go o (d.1 u o s) u (ℕ_discrete k i))
            where
              go : (o : ℕ) → staying_pairs m k o ≡ true → has w k ≡ false → Dec (k ≡ i) → staying_pairs m' k o ≡ true
              go o s u (no e) = other k o e ∙ s
              go o s u (yes e) =
                  let s' : staying_pairs m i o ≡ true = ap (λ (a : ℕ). staying_pairs m a o) (sym e) ∙ s in
                  ap (λ (a : ℕ). staying_pairs m' a o) e ∙ R.row o
                  ∙ and_intro s' (v.1 e (ap (λ (a : ℕ). has w a) (sym e) ∙ u) o s')

pub shrunk_end : (rows : List ℕ) (i n j r w x y : ℕ) (l m : List ℕ) → i ≤ n → n ≤ i → Shrunk rows i j r w x y l m → Shrunk rows n j r w x y l m
shrunk_end rows i n j r w x y l m a b B = let e : i ≡ n = omega arith in subst (λ (k : ℕ). Shrunk rows k j r w x y l m) e B
