-- The places of rows in a layout.
--
--   place_room            : a row's place is one of the list
--   cell_of_lem               : every place past the front is a row's
use Prim.Native.Nat.{ℕ, zero, suc, ◌+◌, ◌-◌, ◌*◌, ◌/◌, ◌%◌, ◌≤◌, ◌<◌}
use native.Mathlib.Nat.{div-add-mod', mod-lt, div-lt_iff_lt-mul, mul-zero}
use mathlib.Core.Path.{◌≡◌, sym, ◌∙◌, ap}
use native.Mathlib.Omega.{arith}
use Rattle.theory.proofs.Entries.{place_below}
use Rattle.table_layout.specs.declared.Layout.{Layout}
use Rattle.table_layout.specs.Rows.{place}

module _ (y : Layout) where
  pub place_room : (o c b : ℕ) → o < y.states → c < y.counters → b < y.width → place y o c b < y.base + y.states * y.counters * y.width
  unfolding place
  place_room o c b lo lc lb = omega (arith, place_below y.states y.counters y.width o c b lo lc lb)

  -- a place past the front
  pub record Cell (k : ℕ) : Type 0 where
    pub output : ℕ
    pub counter : ℕ
    pub column : ℕ
    pub output_below : output < y.states
    pub counter_below : counter < y.counters
    pub column_below : column < y.width
    pub is : k ≡ place y output counter column

  pub cell_of_lem : 0 < y.counters → (k : ℕ) → y.base ≤ k → k < y.base + y.states * y.counters * y.width → Cell k
  unfolding place
  cell_of_lem some k a b = record {
    output = r / n / m;
    counter = r / n % m;
    column = r % n;
    output_below = (div-lt_iff_lt-mul some).1 ((div-lt_iff_lt-mul pos).1 below);
    counter_below = mod-lt (r / n) some;
    column_below = mod-lt r pos;
    is = omega (arith, a) ∙ ap (λ (x : ℕ). y.base + x) (sym (div-add-mod' r n) ∙ ap (λ (x : ℕ). x * n + r % n) (sym (div-add-mod' (r / n) m)));
  }
    where
      n : ℕ
      n = y.width

      m : ℕ
      m = y.counters

      r : ℕ
      r = k - y.base

      below : k - y.base < y.states * y.counters * y.width
      below = omega arith

      positive : (x : ℕ) → k - y.base < y.states * y.counters * x → 0 < x
      positive zero h = absurd (omega (arith, mul-zero (y.states * y.counters)))
      positive (suc x) h = omega arith

      pos : 0 < y.width
      pos = positive y.width below
