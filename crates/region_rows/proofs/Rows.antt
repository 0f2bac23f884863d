-- The rows of a component, written one after the other.
--
--   Putting n a y s rest t   == scratch t is s with the row y for the inputs of a outside rest
use Prim.Native.Nat.{ℕ, ◌≤◌, ◌<◌}
use mathlib.Core.Path.{◌≡◌, refl, sym, ◌∙◌, ap}
use mathlib.Core.Bool.{true, false, ◌&&◌, not}
use mathlib.Core.List.{List}
use mathlib.Core.Logic.{◌≢◌}
use native.Mathlib.Omega.{arith}
use native.Mathlib.Decide.{ℕ_discrete}
use lib.Dec.{eqb}
use lib.ListN.{length, drop}
use Rattle.finite.specs.Bounded.{least, count}
use Rattle.finite.proofs.Truth.{clash}
use Rattle.bits.specs.Member.{has}
use Rattle.bits.proofs.Membership.{has_zero_lem}
use Rattle.bits.proofs.Remove.{less_in, less_other, less_falls}
use Rattle.bits.proofs.Visit.{small_word, lowest_in_lem, lowest_less}
use Rattle.sets.specs.Words.{capacity, sets_in}
use Rattle.scratch.specs.Scratch.{scratch_sets}
use Rattle.scratch.specs.Stored.{in_reach_at, row_at, out_reach_at, RowPut}
use Rattle.region_rows.specs.Fill.{RowsPut}

module _ (n a y : ℕ) (s : List ℕ) where
  pub record Putting (rest : ℕ) (t : List ℕ) : Type 0 where
    pub inside : (j : ℕ) → has rest j ≡ true → has a j ≡ true
    pub long : length t ≡ length s
    pub inputs : (i : ℕ) → i < n → in_reach_at (sets_in t) i ≡ in_reach_at (sets_in s) i
    pub here : (j : ℕ) → has a j ≡ true → has rest j ≡ false → row_at (sets_in t) n j ≡ y
    pub others : (j : ℕ) → has a j ≡ false → row_at (sets_in t) n j ≡ row_at (sets_in s) n j
    pub outputs : (o : ℕ) → out_reach_at (sets_in t) n o ≡ out_reach_at (sets_in s) n o
    pub past : (m : ℕ) → drop (scratch_sets n m) (sets_in t) ≡ drop (scratch_sets n m) (sets_in s)

  pub putting_start : Putting a s
  putting_start = record {
    inside = λ j h. h;
    long = refl;
    inputs = λ i b. refl;
    here = λ j h k. clash h k;
    others = λ j h. refl;
    outputs = λ o. refl;
    past = λ m. refl;
  }

  module _ (most : n ≤ capacity) (within : (j : ℕ) → has a j ≡ true → j < n) (rest : ℕ) (t : List ℕ) (P : Putting rest t) (ne : rest ≢ 0) (i : ℕ)
      (e : i ≡ least capacity (has rest)) where
    small : (j : ℕ) → has rest j ≡ true → j < capacity
    small j h = omega (arith, within j (P.inside j h))

    first : has rest i ≡ true
    first = lowest_in_lem capacity rest i (small_word capacity rest small) ne e

    pub putting_below : i < n
    putting_below = within i (P.inside i first)

    module _ (r : ℕ) (f : (j : ℕ) → has r j ≡ (has rest j && not (eqb j (least capacity (has rest))))) where
      less : (j : ℕ) → has r j ≡ (has rest j && not (eqb j i))
      less = lowest_less capacity rest i r e f

      pub putting_falls : count capacity (has r) < count capacity (has rest)
      putting_falls = less_falls rest i r less capacity (small i first) first

      pub putting_next : (u : List ℕ) → RowPut n i y t u → Putting r u
      putting_next u W = record {
        inside = λ j h. P.inside j (less_in rest i r less j h);
        long = W.long ∙ P.long;
        inputs = λ j b. W.inputs j b ∙ P.inputs j b;
        here = λ j h k. elim (ℕ_discrete j i) [
          | yes q ↦ rw q W.here
          | no q ↦ W.others j q ∙ P.here j h (sym (less_other rest i r less j q) ∙ k)
        ];
        others = λ j h. W.others j (λ q. clash (ap (has a) q ∙ P.inside i first) h) ∙ P.others j h;
        outputs = λ o. W.outputs o ∙ P.outputs o;
        past = λ m. W.rest m ∙ P.past m;
      }

  pub putting_end : (rest : ℕ) (t : List ℕ) → Putting rest t → rest ≡ 0 → RowsPut n a y s t
  putting_end rest t P z = record {
    long = P.long;
    inputs = P.inputs;
    here = λ j h. P.here j h (ap (λ (v : ℕ). has v j) z ∙ has_zero_lem j);
    others = P.others;
    outputs = P.outputs;
    rest = P.past;
  }
