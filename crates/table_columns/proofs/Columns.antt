-- Laws of columns.
--
--   Columning         == a column written but for the counters of a set `rest`
--   columning-*       : how it begins, goes on and ends
use Prim.Native.Nat.{ℕ, ◌+◌, ◌*◌, ◌<◌, ◌≤◌, ◌^◌}
use mathlib.Core.Path.{◌≡◌, refl, sym, ◌∙◌, ap}
use mathlib.Core.Bool.{true, false, ◌&&◌, not}
use mathlib.Core.List.{List}
use mathlib.Core.Logic.{◌≢◌}
use native.Mathlib.Omega.{arith}
use native.Mathlib.Decide.{ℕ_discrete}
use lib.Dec.{eqb}
use lib.ListN.{length, set, length-set}
use Rattle.finite.specs.Bounded.{least, count}
use Rattle.finite.proofs.Truth.{clash}
use Rattle.bits.specs.Member.{has}
use Rattle.bits.proofs.Membership.{has_zero_lem, has_lt}
use Rattle.bits.proofs.Remove.{less_in, less_other, less_falls}
use Rattle.bits.proofs.Visit.{small_word, lowest_below, lowest_in_lem, lowest_less}
use Rattle.table_counters.specs.Counters.{counter_capacity}
use Rattle.table_filling.specs.Grows.{Right, Grows}
use Rattle.table_filling.proofs.Grows.{grows_none, grows_more, grows_set, right_set}
use Rattle.table_columns.specs.Column.{Agrees, Column}

-- a column but for the counters of `rest`
pub record Part (E l m : List ℕ) (base step which rest : ℕ) : Type 0 where
  pub grows : Grows E l m
  pub right : (h : ℕ) → has which h ≡ true → has rest h ≡ false → Right E m (base + step * h)

pub record Columning (l m : List ℕ) (base step which first more rest : ℕ) : Type 0 where
  pub long : length m ≡ length l
  pub inside : (h : ℕ) → has rest h ≡ true → has which h ≡ true
  pub small : rest < 2 ^ counter_capacity
  pub fills : (E : List ℕ) → Agrees E base step which first more → length E ≤ length l → Part E l m base step which rest

pub columning_start : (l : List ℕ) (base step which first more : ℕ) → which < 2 ^ counter_capacity → Columning l l base step which first more which
columning_start l base step which first more b = record {
  long = refl;
  inside = λ h e. e;
  small = b;
  fills = λ E A n. record { grows = grows_none E l; right = λ h e f. clash e f };
}

module _ (l m : List ℕ) (base step which first more rest h r : ℕ) (C : Columning l m base step which first more rest)
    (ne : rest ≢ 0) (e : h ≡ least counter_capacity (has rest)) (d : (s : ℕ) → has r s ≡ (has rest s && not (eqb s (least counter_capacity (has rest))))) where
  less : (s : ℕ) → has r s ≡ (has rest s && not (eqb s h))
  less = lowest_less counter_capacity rest h r e d

  column_member : has which h ≡ true
  column_member = C.inside h (lowest_in_lem counter_capacity rest h C.small ne e)

  pub columning_turn : Columning l (set m (base + step * h) (first + more * h)) base step which first more r
  columning_turn = record {
    long = length-set m (base + step * h) (first + more * h) ∙ C.long;
    inside = λ s a. C.inside s (less_in rest h r less s a);
    small = small_word counter_capacity r (λ s a. has_lt counter_capacity rest s C.small (less_in rest h r less s a));
    fills = fills;
  }
    where
      fills : (E : List ℕ) → Agrees E base step which first more → length E ≤ length l → Part E l (set m (base + step * h) (first + more * h)) base step which r
      fills E A n = record { grows = grows_more E p.grows now; right = λ s a b. right s a b (ℕ_discrete s h) }
        where
          p : Part E l m base step which rest
          p = C.fills E A n

          below : base + step * h < length m
          below = omega (arith, A.below h column_member, C.long)

          now : Grows E m (set m (base + step * h) (first + more * h))
          now = grows_set E m (base + step * h) (first + more * h) (A.below h column_member) below (A.entry h column_member)

          right : (s : ℕ) → has which s ≡ true → has r s ≡ false → Dec (s ≡ h) → Right E (set m (base + step * h) (first + more * h)) (base + step * s)
          right s a b (yes q) = rw q (right_set E m (base + step * h) (first + more * h) below (A.entry h column_member))
          right s a b (no q) = now.kept (base + step * s) (A.below s a) (p.right s a (sym (less_other rest h r less s q) ∙ b))

  pub column_falls : count counter_capacity (has r) < count counter_capacity (has rest)
  column_falls =
      less_falls rest h r less counter_capacity
      (lowest_below counter_capacity rest h C.small ne e)
      (lowest_in_lem counter_capacity rest h C.small ne e)

pub columning_end : (l m : List ℕ) (base step which first more rest : ℕ) → Columning l m base step which first more rest → rest ≡ 0
    → Column l m base step which first more
columning_end l m base step which first more rest C e = record {
  long = C.long;
  fills = λ E A n. record {
    grows = (C.fills E A n).grows;
    right = λ h a. (C.fills E A n).right h a (ap (λ (x : ℕ). has x h) e ∙ has_zero_lem h);
  };
}
