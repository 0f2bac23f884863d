-- Laws of blocks written column by column.
--
--   Blocking          == a block written but for the columns of a set `left`
--   blocking-*        : how it begins, goes on and ends
use Prim.Native.Nat.{ℕ, ◌+◌, ◌*◌, ◌<◌, ◌≤◌, ◌^◌}
use mathlib.Core.Path.{◌≡◌, refl, sym, ◌∙◌, ap}
use mathlib.Core.Bool.{true, false, ◌&&◌, not}
use mathlib.Core.List.{List}
use mathlib.Core.Logic.{◌≢◌}
use native.Mathlib.Omega.{arith}
use native.Mathlib.Decide.{ℕ_discrete}
use lib.Dec.{eqb}
use lib.ListN.{length}
use Rattle.finite.specs.Bounded.{least, count}
use Rattle.finite.proofs.Truth.{clash}
use Rattle.bits.specs.Member.{has}
use Rattle.bits.proofs.Membership.{has_zero_lem}
use Rattle.bits.proofs.Remove.{less_in, less_other, less_falls}
use Rattle.bits.proofs.Visit.{small_word, lowest_below, lowest_in_lem, lowest_less}
use Rattle.sets.specs.Words.{capacity}
use Rattle.table_filling.specs.Grows.{Right, Grows}
use Rattle.table_filling.proofs.Grows.{grows_none, grows_more}
use Rattle.table_columns.specs.Column.{ColumnRoom, Columned, Column, BlockFits, BlockAgrees, Block}

pub record ColumnsPart (E l m : List ℕ) (base width over which left : ℕ) : Type 0 where
  pub grows : Grows E l m
  pub right : (x h : ℕ) → x < width → has over x ≡ true → has which h ≡ true → has left x ≡ false → Right E m (base + x + width * h)

pub record Blocking (l m : List ℕ) (base width over which first more left : ℕ) : Type 0 where
  pub long : length m ≡ length l
  pub inside : (x : ℕ) → has left x ≡ true → (x < width) × (has over x ≡ true)
  pub narrow : width ≤ capacity
  pub fills : (E : List ℕ) → BlockAgrees E base width over which first more → length E ≤ length l → ColumnsPart E l m base width over which left

pub blocking_start : (l : List ℕ) (base width over which first more : ℕ) → ((x : ℕ) → has over x ≡ true → x < width)
    → width ≤ capacity → Blocking l l base width over which first more over
blocking_start l base width over which first more below narrow = record {
  long = refl;
  inside = λ x o. (below x o, o);
  narrow = narrow;
  fills = λ E A n. record { grows = grows_none E l; right = λ x h lt o w q. clash o q };
}

module _ (l m : List ℕ) (base width over which first more left x : ℕ) (C : Blocking l m base width over which first more left)
    (ne : left ≢ 0) (e : x ≡ least capacity (has left)) where
  small : left < 2 ^ capacity
  small = small_word capacity left (λ s a. omega (arith, C.narrow, (C.inside s a).0))

  pub block_column : (x < width) × (has over x ≡ true)
  block_column = C.inside x (lowest_in_lem capacity left x small ne e)

  pub block_fits : BlockFits (length l) base width over which first more → ColumnRoom (length m) (base + x) width which first more
  block_fits B = let F = B.columns x block_column.0 block_column.1 in record { below = λ h w. omega (arith, F.below h w, C.long); small = F.small }

  module _ (r : ℕ) (d : (s : ℕ) → has r s ≡ (has left s && not (eqb s (least capacity (has left))))) where
    less : (s : ℕ) → has r s ≡ (has left s && not (eqb s x))
    less = lowest_less capacity left x r e d

    pub blocking_turn : (k : List ℕ) → Column m k (base + x) width which first more → Blocking l k base width over which first more r
    blocking_turn k R = record {
      long = R.long ∙ C.long;
      inside = λ s a. C.inside s (less_in left x r less s a);
      narrow = C.narrow;
      fills = fills;
    }
      where
        fills : (E : List ℕ) → BlockAgrees E base width over which first more → length E ≤ length l → ColumnsPart E l k base width over which r
        fills E A n = record { grows = grows_more E p.grows now.grows; right = λ y h lt o w q. right y h lt o w q (ℕ_discrete y x) }
          where
            p : ColumnsPart E l m base width over which left
            p = C.fills E A n

            now : Columned E m k (base + x) width which
            now = R.fills E (A.columns x block_column.0 block_column.1) (omega (arith, C.long))

            right : (y h : ℕ) → y < width → has over y ≡ true → has which h ≡ true → has r y ≡ false → Dec (y ≡ x) → Right E k (base + y + width * h)
            right y h lt o w q (yes t) = rw t (now.right h w)
            right y h lt o w q (no t) =
                now.grows.kept (base + y + width * h) ((A.columns y lt o).below h w) (p.right y h lt o w (sym (less_other left x r less y t) ∙ q))

    pub blocking_falls : count capacity (has r) < count capacity (has left)
    blocking_falls = less_falls left x r less capacity (lowest_below capacity left x small ne e) (lowest_in_lem capacity left x small ne e)

pub blocking_end : (l m : List ℕ) (base width over which first more left : ℕ) → Blocking l m base width over which first more left → left ≡ 0
    → Block l m base width over which first more
blocking_end l m base width over which first more left C e = record {
  long = C.long;
  fills = λ E A n. record {
    grows = (C.fills E A n).grows;
    right = λ x h lt o w. (C.fills E A n).right x h lt o w (ap (λ (z : ℕ). has z x) e ∙ has_zero_lem x);
  };
}
