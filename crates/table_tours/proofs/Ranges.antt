-- Goal after goal.
--
--   range_written_none, range_written_next, range_written_past, range_written_end : the sets of a range, one after the other
--   course-done    : where all sets were passed, all rows are written
use Prim.Native.Nat.{ℕ, ◌+◌, ◌≤◌, ◌<◌}
use mathlib.Core.Path.{◌≡◌, refl, sym, ◌∙◌, ap, subst}
use mathlib.Core.Bool.{true, false}
use mathlib.Core.List.{List}
use mathlib.Core.Logic.{◌⊎◌, inl, inr}
use native.Mathlib.Omega.{arith}
use native.Mathlib.Decide.{ℕ_discrete, dec_lt}
use Rattle.finite.proofs.Truth.{clash}
use Rattle.bits.specs.Member.{has}
use Rattle.theory.specs.Tour.{goal_at}
use Rattle.table_goals.specs.declared.GoalRange.{GoalRange}
use Rattle.table_goals.specs.Goal.{Goals, first_from}
use Rattle.table_goals.specs.Ranges.{range_set}
use Rattle.table_goals.proofs.Goal.{first_member, first_below, goals_at}
use Rattle.table_layout.specs.declared.Layout.{Layout}
use Rattle.table_layout.specs.Rows.{Filled}
use Rattle.table_layout.proofs.Places.{filled_none, filled_join, filled_part}
use Rattle.table_tours.specs.Course.{Course, Aimed, GoalWithin, RangeWritten}

module _ (moves : List ℕ) (z : Layout) (c over q : ℕ) (t : GoalRange) where
  pub range_written_none : (l : List ℕ) → RangeWritten moves z c over q t 0 l l
  range_written_none l = record {
    long = refl;
    fills = λ p sets. filled_none z p.row p.entries p.table l (λ s h b ls lh lb d. omega (arith, d.from, d.below));
  }

  pub range_written_next : (j : ℕ) {l m n k : List ℕ} → j < t.count → RangeWritten moves z c over q t j l m
      → Aimed moves z c over q (range_set t j) (t.from + j) m n → k ≡ n → RangeWritten moves z c over q t (j + 1) l k
  range_written_next j {l} {m} {n} {k} b D A e = rw e (record {
    long = A.long ∙ D.long;
    fills = λ p sets.
        filled_join z p.row p.entries p.table (D.fills p sets) (A.fills p (sets j b))
        (λ s i d ls lh lb f. pick s i d f (ℕ_discrete (first_from z.counters q i) (t.from + j)));
  })
    where
      pick : (s h d : ℕ) → GoalWithin z c over q t.from (t.from + (j + 1)) s h d → Dec (first_from z.counters q h ≡ t.from + j)
          → GoalWithin z c over q t.from (t.from + j) s h d ⊎ ((has c s ≡ true) × (first_from z.counters q h ≡ t.from + j) × (has over d ≡ true))
      pick s h d f (yes g) = inr (f.state, g, f.column)
      pick s h d f (no g) = inl (record { state = f.state; column = f.column; from = f.from; below = omega (arith, f.below) })

  pub range_written_past : (j : ℕ) {l m k : List ℕ} → Goals q z.counters 0 → has q (t.from + j) ≡ false → RangeWritten moves z c over q t j l m → k ≡ m
      → RangeWritten moves z c over q t (j + 1) l k
  range_written_past j {l} {m} {k} G out D e = rw e (record {
    long = D.long;
    fills = λ p sets.
        filled_part z p.row p.entries p.table (D.fills p sets)
        (λ s h d ls lh lb f. record {
          state = f.state;
          column = f.column;
          from = f.from;
          below = less h lh f.below (ℕ_discrete (first_from z.counters q h) (t.from + j));
        });
  })
    where
      less : (h : ℕ) → h < z.counters → first_from z.counters q h < t.from + (j + 1) → Dec (first_from z.counters q h ≡ t.from + j)
          → first_from z.counters q h < t.from + j
      less h lh b (yes g) = clash (ap (has q) (sym g) ∙ first_member q z.counters h (goals_at q z.counters 0 h G lh)) out
      less h lh b (no g) = omega arith

  pub range_written_end : (j n : ℕ) {l m : List ℕ} → j ≤ n → n ≤ j → RangeWritten moves z c over q t j l m → RangeWritten moves z c over q t n l m
  range_written_end j n {l} {m} a b D = subst (λ (k : ℕ). RangeWritten moves z c over q t k l m) (omega arith) D

module _ (z : Layout) (moves : List ℕ) (c over q : ℕ) (p : Course z moves c over q) where
  pub goal_within_none : (l : List ℕ) → Filled z p.entries (GoalWithin z c over q 0 0) l l
  goal_within_none l = filled_none z p.row p.entries p.table l (λ s h b ls lh lb d. omega (arith, d.below))

  -- one range after the other
  pub goal_within_further : (t : GoalRange) (n : ℕ) {l m k : List ℕ} → t.from ≡ n
      → ((i : ℕ) → i < t.count → has (range_set t i) ≡ goal_at p.sets (t.from + i))
      → Filled z p.entries (GoalWithin z c over q 0 n) l m → RangeWritten moves z c over q t t.count m k
      → Filled z p.entries (GoalWithin z c over q 0 (n + t.count)) l k
  goal_within_further t n {l} {m} {k} e sets F D =
      filled_join z p.row p.entries p.table F (D.fills p sets)
      (λ s h b ls lh lb d. pick s h b d (ltb_dec (first_from z.counters q h) n))
    where
      ltb_dec : (i j : ℕ) → (i < j) ⊎ (j ≤ i)
      ltb_dec i j = elim (dec_lt i j) [ yes a ↦ inl a | no a ↦ inr (omega arith) ]

      pick : (s h b : ℕ) → GoalWithin z c over q 0 (n + t.count) s h b → (first_from z.counters q h < n) ⊎ (n ≤ first_from z.counters q h)
          → GoalWithin z c over q 0 n s h b ⊎ GoalWithin z c over q t.from (t.from + t.count) s h b
      pick s h b d (inl a) = inl (record { state = d.state; column = d.column; from = d.from; below = a })
      pick s h b d (inr a) = inr (record { state = d.state; column = d.column; from = omega (arith, e); below = omega (arith, e, d.below) })

  pub goal_within_all : {l m : List ℕ} → Goals q z.counters 0 → (n : ℕ) → z.counters ≤ n → Filled z p.entries (GoalWithin z c over q 0 n) l m
      → Filled z p.entries (λ s h b. (has c s ≡ true) × (has over b ≡ true)) l m
  goal_within_all G n e F =
      filled_part z p.row p.entries p.table F
      (λ s h b ls lh lb d. record {
        state = d.0;
        column = d.1;
        from = omega arith;
        below = omega (arith, first_below q z.counters h (goals_at q z.counters 0 h G lh));
      })
