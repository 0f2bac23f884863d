-- Laws of rows and of blocks written row by row.
--
--   run-*             : how a run begins and goes on
--   run_row           : a run of all below the width is a row
--   scattering-*      : how it begins, goes on and ends
--   inside_below, fits_inside, block_over, block_none : the columns of a set that are below the width
--   Rowing            == a block written but for the counters of a set `left`
--   rowing-*          : how it begins, goes on and ends
use Prim.Native.Nat.{ℕ, ◌+◌, ◌*◌, ◌<◌, ◌≤◌, ◌^◌}
use mathlib.Core.Path.{◌≡◌, refl, sym, ◌∙◌, ap}
use mathlib.Core.Bool.{true, false, ◌&&◌, not}
use mathlib.Core.List.{List}
use mathlib.Core.Logic.{◌≢◌}
use native.Mathlib.Omega.{arith}
use native.Mathlib.Decide.{ℕ_discrete}
use lib.Dec.{eqb, ltb}
use lib.ListN.{length, get_or, set, length-set}
use borrow.Author.Tests.{lt-ltb, ltb-true}
use Rattle.finite.specs.Bounded.{least, count}
use Rattle.finite.proofs.Truth.{clash}
use Rattle.bits.specs.Member.{has}
use Rattle.bits.proofs.Membership.{has_zero_lem, has_lt}
use Rattle.bits.proofs.Compare.{nonzero_member}
use Rattle.bits.proofs.Remove.{less_in, less_other, less_falls}
use Rattle.sets.specs.Words.{capacity}
use Rattle.table_counters.specs.Counters.{counter_capacity}
use Rattle.table_filling.specs.Grows.{Right, Grows}
use Rattle.table_filling.proofs.Grows.{grows_none, grows_more, grows_set, right_set}
use Rattle.table_columns.specs.Column.{
  ColumnRoom,
  RunAgrees,
  Run,
  RowFits,
  RowAgrees,
  Rowed,
  Row,
  BlockFits,
  BlockAgrees,
  Blocked,
  Block,
}
use Rattle.table_columns.specs.Scattering.{RowPart, Scattering}
use Rattle.bits.proofs.Visit.{small_word, lowest_below, lowest_in_lem, lowest_less, cut_in, cut_all}

-- ---- runs

pub run_start : (l : List ℕ) (base width value : ℕ) → Run l l base width value 0
run_start l base width value = record {
  long = refl;
  fills = λ E A. record { grows = grows_none E l; right = λ x b. absurd (omega arith) };
}

pub run_next : (l m : List ℕ) (base width value x : ℕ) → Run l m base width value x → x < width → base + x < length m
    → Run l (set m (base + x) value) base width value (x + 1)
run_next l m base width value x R lt b = record {
  long = length-set m (base + x) value ∙ R.long;
  fills = λ E A. record { grows = grows_more E (R.fills E A).grows (now E A); right = λ y c. right E A y c (ℕ_discrete y x) };
}
  where
    now : (E : List ℕ) → RunAgrees E base width value → Grows E m (set m (base + x) value)
    now E A = grows_set E m (base + x) value (A.below x lt) b (A.entry x lt)

    right : (E : List ℕ) → RunAgrees E base width value → (y : ℕ) → y < x + 1 → Dec (y ≡ x) → Right E (set m (base + x) value) (base + y)
    right E A y c (yes q) = rw q (right_set E m (base + x) value b (A.entry x lt))
    right E A y c (no q) = (now E A).kept (base + y) (A.below y (omega arith)) ((R.fills E A).right y (omega arith))

pub run_end : (l m : List ℕ) (base width value x : ℕ) → Run l m base width value x → width ≤ x → Run l m base width value width
run_end l m base width value x R b = record {
  long = R.long;
  fills = λ E A. record { grows = (R.fills E A).grows; right = λ y c. (R.fills E A).right y (omega arith) };
}

-- ---- rows

module _ (over b width : ℕ) (e : over ≡ b) (f : (s : ℕ) → has b s ≡ ltb s width) where
  pub full_in : (x : ℕ) → x < width → has over x ≡ true
  full_in x lt = ap (λ (y : ℕ). has y x) e ∙ f x ∙ lt-ltb x width lt

  pub full_below : (x : ℕ) → has over x ≡ true → x < width
  full_below x h = ltb-true x width (sym (f x) ∙ sym (ap (λ (y : ℕ). has y x) e) ∙ h)

  pub run_fits : (n base : ℕ) → RowFits n base width over → (x : ℕ) → x < width → base + x < n
  run_fits n base F x lt = F.below x (full_in x lt)

  pub run_row : (l m : List ℕ) (base value : ℕ) → Run l m base width value width → Row l m base over value
  run_row l m base value R = record {
    long = R.long;
    fills = λ E A n. record {
      grows = (R.fills E (agrees E A)).grows;
      right = λ x h. (R.fills E (agrees E A)).right x (full_below x h);
    };
  }
    where
      agrees : (E : List ℕ) → RowAgrees E base over value → RunAgrees E base width value
      agrees E A = record { below = λ x lt. A.below x (full_in x lt); entry = λ x lt. A.entry x (full_in x lt) }

pub scattering_start : (n : ℕ) (l : List ℕ) (base width over value : ℕ) → RowFits n base width over → Scattering n l l base width over value over
scattering_start n l base width over value F = record {
  fits = F;
  long = refl;
  inside = λ x e. e;
  fills = λ E A k. record { grows = grows_none E l; right = λ x e f. clash e f };
}

module _ (n : ℕ) (l m : List ℕ) (base width over value rest x : ℕ) (C : Scattering n l m base width over value rest)
    (ne : rest ≢ 0) (e : x ≡ least capacity (has rest)) where
  small : rest < 2 ^ capacity
  small = small_word capacity rest (λ s a. omega (arith, C.fits.narrow, C.fits.inside s (C.inside s a)))

  scattered_in : has over x ≡ true
  scattered_in = C.inside x (lowest_in_lem capacity rest x small ne e)

  pub scattered_below : base + x < n
  scattered_below = C.fits.below x scattered_in

  module _ (r : ℕ) (d : (s : ℕ) → has r s ≡ (has rest s && not (eqb s (least capacity (has rest))))) where
    gone : (s : ℕ) → has r s ≡ (has rest s && not (eqb s x))
    gone = lowest_less capacity rest x r e d

    pub scattering_turn : Scattering n l (set m (base + x) value) base width over value r
    scattering_turn = record {
      fits = C.fits;
      long = length-set m (base + x) value ∙ C.long;
      inside = λ s a. C.inside s (less_in rest x r gone s a);
      fills = fills;
    }
      where
        fills : (E : List ℕ) → RowAgrees E base over value → length E ≤ length l → RowPart E l (set m (base + x) value) base over r
        fills E A k = record { grows = grows_more E p.grows now; right = λ s a b. right s a b (ℕ_discrete s x) }
          where
            p : RowPart E l m base over rest
            p = C.fills E A k

            below : base + x < length m
            below = omega (arith, A.below x scattered_in, C.long)

            now : Grows E m (set m (base + x) value)
            now = grows_set E m (base + x) value (A.below x scattered_in) below (A.entry x scattered_in)

            right : (s : ℕ) → has over s ≡ true → has r s ≡ false → Dec (s ≡ x) → Right E (set m (base + x) value) (base + s)
            right s a b (yes q) = rw q (right_set E m (base + x) value below (A.entry x scattered_in))
            right s a b (no q) = now.kept (base + s) (A.below s a) (p.right s a (sym (less_other rest x r gone s q) ∙ b))

    pub scattering_falls : count capacity (has r) < count capacity (has rest)
    scattering_falls = less_falls rest x r gone capacity (lowest_below capacity rest x small ne e) (lowest_in_lem capacity rest x small ne e)

pub scattering_end : (n : ℕ) (l m : List ℕ) (base width over value rest : ℕ) → Scattering n l m base width over value rest → rest ≡ 0
    → Row l m base over value
scattering_end n l m base width over value rest C e = record {
  long = C.long;
  fills = λ E A k. record {
    grows = (C.fills E A k).grows;
    right = λ x a. (C.fills E A k).right x a (ap (λ (y : ℕ). has y x) e ∙ has_zero_lem x);
  };
}

-- ---- what a block's rows need

-- columns below the width, of which there are some
pub record Narrowed (width inside : ℕ) : Type 0 where
  pub within : (x : ℕ) → has inside x ≡ true → x < width
  pub some : inside ≢ 0

-- the columns of `over` below the width; b is all below it
module _ (over width inside b : ℕ) (f : (s : ℕ) → has b s ≡ ltb s width) (i : (s : ℕ) → has inside s ≡ (has over s && has b s)) where
  pub inside_below : (x : ℕ) → has inside x ≡ true → x < width
  inside_below x e = (cut_in over b inside width f i x e).0

  inside_over : (x : ℕ) → has inside x ≡ true → has over x ≡ true
  inside_over x e = (cut_in over b inside width f i x e).1

  inside_in : (x : ℕ) → x < width → has over x ≡ true → has inside x ≡ true
  inside_in = cut_all over b inside width f i

  -- a block of these is the block of `over`
  pub fits_inside : {n base which first more : ℕ} → BlockFits n base width over which first more → BlockFits n base width inside which first more
  fits_inside B = record { narrow = B.narrow; inside = B.inside; columns = λ x lt o. B.columns x lt (inside_over x o) }

  pub block_over : {l m : List ℕ} {base which first more : ℕ} → Block l m base width inside which first more → Block l m base width over which first more
  block_over {l} {m} {base} {which} {first} {more} B = record { long = B.long; fills = λ E A n. go E (B.fills E (agrees E A) n) }
    where
      agrees : (E : List ℕ) → BlockAgrees E base width over which first more → BlockAgrees E base width inside which first more
      agrees E A = record { columns = λ x lt o. A.columns x lt (inside_over x o) }

      go : (E : List ℕ) → Blocked E l m base width inside which width → Blocked E l m base width over which width
      go E D = record { grows = D.grows; right = λ x h lt o w. D.right x h lt (inside_in x lt o) w }

  -- where there are none there is nothing to write
  pub block_none : (l : List ℕ) (base which first more : ℕ) → inside ≡ 0 → Block l l base width over which first more
  block_none l base which first more z = record {
    long = refl;
    fills = λ E A n. record {
      grows = grows_none E l;
      right = λ x h lt o w. clash (inside_in x lt o) (ap (λ (y : ℕ). has y x) z ∙ has_zero_lem x);
    };
  }

module _ (n base width which first more inside : ℕ) (B : BlockFits n base width inside which first more) (I : Narrowed width inside)
    (h : ℕ) (w : has which h ≡ true) where
  column_of_lem : (x : ℕ) → has inside x ≡ true → ColumnRoom n (base + x) width which first more
  column_of_lem x e = B.columns x (I.within x e) e

  some : (x : ℕ) × (has inside x ≡ true)
  some = nonzero_member inside I.some

  pub row_fits_lem : (k : ℕ) → k ≡ n → RowFits k (base + width * h) width inside
  row_fits_lem k q = record { narrow = B.narrow; inside = I.within; below = λ x e. omega (arith, (column_of_lem x e).below h w) }

  pub row_entry_lem : first + more * h < 65536
  row_entry_lem = (column_of_lem some.0 some.1).small h w

  pub row_place : base + width * h < n
  row_place = omega (arith, (column_of_lem some.0 some.1).below h w)

-- ---- a block but for the counters of `left`

pub record RowsPart (E l m : List ℕ) (base width over which left : ℕ) : Type 0 where
  pub grows : Grows E l m
  pub right : (x h : ℕ) → x < width → has over x ≡ true → has which h ≡ true → has left h ≡ false → Right E m (base + x + width * h)

pub record Rowing (l m : List ℕ) (base width over which first more left : ℕ) : Type 0 where
  pub long : length m ≡ length l
  pub inside : (h : ℕ) → has left h ≡ true → has which h ≡ true
  pub small : left < 2 ^ counter_capacity
  pub fills : (E : List ℕ) → BlockAgrees E base width over which first more → length E ≤ length l → RowsPart E l m base width over which left

pub rowing_start : (l : List ℕ) (base width over which first more : ℕ) → which < 2 ^ counter_capacity → Rowing l l base width over which first more which
rowing_start l base width over which first more b = record {
  long = refl;
  inside = λ h e. e;
  small = b;
  fills = λ E A n. record { grows = grows_none E l; right = λ x h lt o e f. clash e f };
}

module _ (l m : List ℕ) (base width over which first more left h r : ℕ) (C : Rowing l m base width over which first more left)
    (ne : left ≢ 0) (e : h ≡ least counter_capacity (has left)) (d : (s : ℕ) → has r s ≡ (has left s && not (eqb s (least counter_capacity (has left))))) where
  less : (s : ℕ) → has r s ≡ (has left s && not (eqb s h))
  less = lowest_less counter_capacity left h r e d

  row_member : has which h ≡ true
  row_member = C.inside h (lowest_in_lem counter_capacity left h C.small ne e)

  pub rowing_turn : (k : List ℕ) → Narrowed width over → Row m k (base + width * h) over (first + more * h) → Rowing l k base width over which first more r
  rowing_turn k I R = record {
    long = R.long ∙ C.long;
    inside = λ s a. C.inside s (less_in left h r less s a);
    small = small_word counter_capacity r (λ s a. has_lt counter_capacity left s C.small (less_in left h r less s a));
    fills = fills;
  }
    where
      swap : (x s : ℕ) → base + width * s + x ≡ base + x + width * s
      swap x s = omega arith

      fills : (E : List ℕ) → BlockAgrees E base width over which first more → length E ≤ length l → RowsPart E l k base width over which r
      fills E A n = record { grows = grows_more E p.grows now.grows; right = λ x s lt o a q. right x s lt o a q (ℕ_discrete s h) }
        where
          p : RowsPart E l m base width over which left
          p = C.fills E A n

          agrees : RowAgrees E (base + width * h) over (first + more * h)
          agrees = record {
            below = λ x q. omega (arith, (A.columns x (I.within x q) q).below h row_member);
            entry = λ x q. (A.columns x (I.within x q) q).entry h row_member ∙ ap (λ (z : ℕ). get_or E z 0) (sym (swap x h));
          }

          now : Rowed E m k (base + width * h) over
          now = R.fills E agrees (omega (arith, C.long))

          right : (x s : ℕ) → x < width → has over x ≡ true → has which s ≡ true → has r s ≡ false → Dec (s ≡ h) → Right E k (base + x + width * s)
          right x s lt o a q (yes t) = rw (t, sym (swap x h)) (now.right x o)
          right x s lt o a q (no t) =
              now.grows.kept (base + x + width * s) ((A.columns x lt o).below s a) (p.right x s lt o a (sym (less_other left h r less s t) ∙ q))

  pub rowing_falls : count counter_capacity (has r) < count counter_capacity (has left)
  rowing_falls =
      less_falls left h r less counter_capacity
      (lowest_below counter_capacity left h C.small ne e)
      (lowest_in_lem counter_capacity left h C.small ne e)

pub rowing_end : (l m : List ℕ) (base width over which first more left : ℕ) → Rowing l m base width over which first more left → left ≡ 0
    → Block l m base width over which first more
rowing_end l m base width over which first more left C e = record {
  long = C.long;
  fills = λ E A n. record {
    grows = (C.fills E A n).grows;
    right = λ x h lt o a. (C.fills E A n).right x h lt o a (ap (λ (z : ℕ). has z h) e ∙ has_zero_lem h);
  };
}
