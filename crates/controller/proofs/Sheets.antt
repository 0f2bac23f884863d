-- The controller's table by input.
--
--   below_columns     : where every input leads, there are as many columns as inputs
--   input_long, input_filled : the table
use Prim.Native.Nat.{ℕ, zero, suc, ◌≤◌, ◌<◌}
use mathlib.Core.Path.{◌≡◌, refl, sym, ◌∙◌}
use mathlib.Core.Bool.{Bool, true}
use mathlib.Core.List.{List, ◌++◌}
use native.Mathlib.Omega.{arith}
use lib.Dec.{ltb}
use lib.ListN.{length, get_or, drop}
use borrow.Author.Tests.{lt-ltb}
use Rattle.finite.specs.Bounded.{count, one}
use Rattle.bits.specs.Member.{has}
use Rattle.sets.specs.Words.{bits_of, sets_in}
use Rattle.game.specs.declared.Game.{Game}
use Rattle.play.specs.Play.{separated_of}
use Rattle.theory.specs.Choice.{controller_start}
use Rattle.theory.specs.Entries.{entry, controller_entries}
use Rattle.theory.proofs.Entries.{controller_long, controller_start_at, controller_row_at}
use Rattle.table_layout.specs.Rows.{place}
use Rattle.controller_rows.specs.declared.Size.{Size}
use Rattle.controller_rows.specs.Writes.{input_of, layout_of, length_of, Starts}
use Rattle.controller_rows.proofs.Columns.{own_column}
use Rattle.controller_table.specs.Filled.{Sheet, ControllerFilled, Every, Sized, Given}
use Rattle.controller_table.proofs.Setting.{sizes_of_lem}
use Rattle.controller_table.proofs.Table.{starts_grown, starts_stand, table_filled}
use Rattle.controller.specs.Sizes.{ByInput}

all_counted : (p : ℕ → Bool) (n : ℕ) → ((k : ℕ) → k < n → p k ≡ true) → count n p ≡ n
unfolding count one
all_counted p zero h = refl
all_counted p (suc n) h = rw (h n (omega arith)) (omega (arith, all_counted p n (λ k b. h k (omega arith))))

pub below_columns : (n x : ℕ) → ((s : ℕ) → has x s ≡ ltb s n) → n ≡ count n (has x)
below_columns n x f = sym (all_counted (has x) n (λ k b. f k ∙ lt-ltb k n b))

module _ (g : Game) (z : Size) (Z : Sized g z) (I : ByInput z) where
  pub input_long : length_of z ≡ length (controller_entries (separated_of g))
  input_long =
      let e = sizes_of_lem g z Z in
      rw (I.base, I.width, e.inputs, e.outputs, e.counters) (sym (controller_long (separated_of g)))

  own : (b : ℕ) → b < z.inputs → input_of z b ≡ b
  own b l = own_column z Z.columns I.width b l

  input_sheet : Sheet (separated_of g) (layout_of z) (input_of z) (controller_entries (separated_of g))
  unfolding layout_of place
  input_sheet =
      let e = sizes_of_lem g z Z in record {
        outputs = e.outputs;
        counters = e.counters;
        inputs = λ b l. rw (own b (rw I.width at l)) (omega (arith, I.width, e.inputs));
        rows = record {
          long = sym input_long;
          row = λ o c b lo lc lb.
              rw (own b (rw I.width at lb), I.base, I.width, e.inputs, e.counters)
              (controller_row_at (separated_of g) 0 o c b (omega (arith, e.outputs)) (omega (arith, e.counters)) (omega (arith, I.width, e.inputs)));
        };
      }

  input_starts : (i : ℕ) → i < (separated_of g).input.states
      → get_or (controller_entries (separated_of g)) i 0 ≡ entry (controller_start (separated_of g) i)
  input_starts = controller_start_at (separated_of g) 0

  -- the starts and the rows are the table
  pub input_filled : {s : List ℕ} {inner : ℕ} {l m r : List ℕ} → Given g z s inner → length (controller_entries (separated_of g)) ≤ length l
      → Starts z (sets_in s) inner (bits_of g.input.initial) (bits_of g.output.initial) z.inputs l m → ControllerFilled (separated_of g) z Every m r
      → r ≡ controller_entries (separated_of g) ++ drop (length (controller_entries (separated_of g))) l
  input_filled {s} {inner} {l} {m} {r} G long one rows =
      let E = controller_entries (separated_of g) in
      let n : length_of z ≤ length l = omega (arith, input_long) in
      table_filled g z s inner G E input_sheet input_starts n (starts_grown g z s inner G E input_sheet input_starts n one)
      (λ k b. starts_stand g z s inner G E input_sheet input_starts n one k (omega (arith, I.base, (sizes_of_lem g z Z).inputs))) rows
