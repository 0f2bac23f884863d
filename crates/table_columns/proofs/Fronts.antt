-- Laws of the counters below a count.
--
--   front_start, front_next, front_end  : how a front begins, goes on and ends
--   front_fits, front_column            : where a set is all counters below the count, its column is the front
use Prim.Native.Nat.{ℕ, ◌+◌, ◌*◌, ◌<◌, ◌≤◌}
use mathlib.Core.Path.{◌≡◌, refl, ◌∙◌}
use mathlib.Core.List.{List}
use native.Mathlib.Omega.{arith}
use native.Mathlib.Decide.{ℕ_discrete}
use lib.Dec.{ltb}
use lib.ListN.{length, set, length-set}
use Rattle.bits.specs.Member.{has}
use Rattle.table_counters.specs.Counters.{counter_capacity}
use Rattle.table_filling.specs.Grows.{Right, Grows}
use Rattle.table_filling.proofs.Grows.{grows_none, grows_more, grows_set, right_set}
use Rattle.table_columns.specs.Column.{ColumnRoom, Agrees, Column, FrontFits, FrontAgrees, Front}
use Rattle.table_columns.proofs.Rows.{full_in, full_below}

pub front_start : (l : List ℕ) (base step count first more : ℕ) → Front l l base step count first more 0
front_start l base step count first more = record {
  long = refl;
  fills = λ E A. record { grows = grows_none E l; right = λ h b. absurd (omega arith) };
}

pub front_next : (l m : List ℕ) (base step count first more h : ℕ) → Front l m base step count first more h → h < count → base + step * h < length m
    → Front l (set m (base + step * h) (first + more * h)) base step count first more (h + 1)
front_next l m base step count first more h R lt b = record {
  long = length-set m (base + step * h) (first + more * h) ∙ R.long;
  fills = λ E A. record { grows = grows_more E (R.fills E A).grows (now E A); right = λ y c. right E A y c (ℕ_discrete y h) };
}
  where
    now : (E : List ℕ) → FrontAgrees E base step count first more → Grows E m (set m (base + step * h) (first + more * h))
    now E A = grows_set E m (base + step * h) (first + more * h) (A.below h lt) b (A.entry h lt)

    right : (E : List ℕ) → FrontAgrees E base step count first more → (y : ℕ) → y < h + 1 → Dec (y ≡ h)
        → Right E (set m (base + step * h) (first + more * h)) (base + step * y)
    right E A y c (yes q) = rw q (right_set E m (base + step * h) (first + more * h) b (A.entry h lt))
    right E A y c (no q) =
        let less : y < h = omega arith in
        (now E A).kept (base + step * y) (A.below y (omega arith)) ((R.fills E A).right y less)

pub front_end : (l m : List ℕ) (base step count first more h : ℕ) → Front l m base step count first more h → count ≤ h
    → Front l m base step count first more count
front_end l m base step count first more h R b = record {
  long = R.long;
  fills = λ E A. record { grows = (R.fills E A).grows; right = λ y c. (R.fills E A).right y (omega arith) };
}

module _ (which b count : ℕ) (e : which ≡ b) (f : (s : ℕ) → has b s ≡ ltb s count) where
  pub front_fits : (n base step first more : ℕ) → ColumnRoom n base step which first more → count ≤ counter_capacity → FrontFits n base step count first more
  front_fits n base step first more F few = record {
    few = few;
    below = λ h lt. F.below h (full_in which b count e f h lt);
    small = λ h lt. F.small h (full_in which b count e f h lt);
  }

  pub front_column : (l m : List ℕ) (base step first more : ℕ) → Front l m base step count first more count → Column l m base step which first more
  front_column l m base step first more R = record {
    long = R.long;
    fills = λ E A n. record {
      grows = (R.fills E (agrees E A)).grows;
      right = λ h a. (R.fills E (agrees E A)).right h (full_below which b count e f h a);
    };
  }
    where
      agrees : (E : List ℕ) → Agrees E base step which first more → FrontAgrees E base step count first more
      agrees E A = record { below = λ h lt. A.below h (full_in which b count e f h lt); entry = λ h lt. A.entry h (full_in which b count e f h lt) }
