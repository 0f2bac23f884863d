-- The controller's table by component.
--
--   components_columns    : there are as many columns as components
--   ranks_room            : the starts and the ranks come first
--   component_long, component_products, component_filled : the table
use Prim.Native.Nat.{ℕ, ◌+◌, ◌*◌, ◌-◌, ◌≤◌, ◌<◌}
use native.Mathlib.Nat.{mul-le-mul}
use mathlib.Core.Path.{◌≡◌, sym, ◌∙◌, ap, ap₂}
use mathlib.Core.Bool.{Bool, ◌&&◌}
use mathlib.Core.List.{List, ◌++◌}
use native.Mathlib.Omega.{arith}
use native.Mathlib.Decide.{dec_lt}
use lib.Dec.{eqb}
use lib.ListN.{length, get_or, drop}
use Rattle.finite.proofs.Lists.{any_default, drop_same}
use Rattle.finite.specs.Bounded.{least, count}
use Rattle.finite.proofs.Bounded.{least_same, count_le, count_same}
use Rattle.bits.specs.Member.{has, pack}
use Rattle.bits.proofs.Membership.{has_pack_below}
use Rattle.sets.specs.Words.{bits_of, sets_in}
use Rattle.table_filling.specs.Grows.{Right, Grows}
use Rattle.table_filling.proofs.Grows.{grows_more}
use Rattle.game.specs.declared.Game.{Game}
use Rattle.play.specs.Play.{graph_of, separated_of}
use Rattle.theory.specs.Choice.{controller_start}
use Rattle.theory.specs.Entries.{none_entry, entry}
use Rattle.compact.specs.Rank.{leads, component_count, leader_of}
use Rattle.compact.specs.Compact.{compact_length, compact_entries, compact_cell}
use Rattle.compact.proofs.Rank.{first_below}
use Rattle.compact.proofs.Entries.{compact_entries_length, compact_start, compact_rank, compact_cell_lem}
use Rattle.graph_ranks.specs.Ranks.{RanksWritten}
use Rattle.table_sizes.proofs.Lengths.{controller_rows}
use Rattle.table_layout.specs.Rows.{place}
use Rattle.controller_rows.specs.declared.Size.{Size}
use Rattle.controller_rows.specs.Writes.{leading, column_of, input_of, layout_of, length_of, Starts}
use Rattle.controller_table.specs.Filled.{Sheet, ControllerFilled, Every, Sized, Given}
use Rattle.controller_table.proofs.Cells.{place_room}
use Rattle.controller_table.proofs.Setting.{fits_of, sizes_of_lem}
use Rattle.controller_table.proofs.Table.{starts_grown, starts_stand, table_filled}
use Rattle.controller.specs.Sizes.{ByComponent}

pub components_columns : (g : Game) (x : ℕ) → x ≡ pack g.input.states (leads (separated_of g))
    → component_count (separated_of g) ≡ count g.input.states (has x)
unfolding component_count separated_of graph_of
components_columns g x e =
    count_same g.input.states (leads (separated_of g)) (has x)
    (λ k b. sym (ap (λ (y : ℕ). has y k) e ∙ has_pack_below g.input.states (leads (separated_of g)) k b))

pub ranks_room : (g : Game) → g.input.states + g.input.states ≤ compact_length (separated_of g)
unfolding compact_length separated_of graph_of
ranks_room g = omega arith

module _ (g : Game) (z : Size) (Z : Sized g z) (C : ByComponent g z) where
  leads_at : (j : ℕ) → j < z.inputs → leading z j ≡ leads (separated_of g) j
  leads_at j b = ap (λ (x : ℕ). has x j) C.leaders ∙ has_pack_below z.inputs (leads (separated_of g)) j b

  column_at : (j : ℕ) → j ≤ z.inputs → column_of z j ≡ count j (leads (separated_of g))
  unfolding column_of
  column_at j b = count_same j (leading z) (leads (separated_of g)) (λ k l. leads_at k (omega arith))

  -- the leader of a column is the smallest input of its component
  input_at : (b : ℕ) → input_of z b ≡ leader_of (separated_of g) b
  unfolding input_of leader_of
  input_at b =
      least_same z.inputs (λ j. leading z j && eqb (column_of z j) b)
      (λ j. leads (separated_of g) j && eqb (count j (leads (separated_of g))) b)
      (λ j l. ap₂ (λ (x : Bool) (k : ℕ). x && eqb k b) (leads_at j l) (column_at j (omega arith)))
      ∙ ap (λ (n : ℕ). least n (λ j. leads (separated_of g) j && eqb (count j (leads (separated_of g))) b)) (sizes_of_lem g z Z).inputs

  pub component_long : length_of z ≡ compact_length (separated_of g)
  unfolding compact_length
  component_long =
      let e = sizes_of_lem g z Z in
      rw (C.base, C.width, e.inputs, e.outputs, e.counters) (omega arith)

  -- no product of the sizes wraps
  pub component_products : (z.outputs * z.counters ≤ 4096) × (z.outputs * z.counters * z.width ≤ 524288)
  component_products =
      let p : z.outputs * z.counters ≤ 4096 = rw Z.outputs (controller_rows g Z.accepted z.counters Z.counters) in
      let w : z.width ≤ 128 = omega (arith, Z.columns, count_le z.inputs (leading z), Z.inputs, (fits_of g z Z).input.most) in
      (p, mul-le-mul p w)

  list_long : length_of z ≡ length (compact_entries (separated_of g))
  list_long = component_long ∙ sym (compact_entries_length (separated_of g))

  inside : (k : ℕ) → k < z.base → k < length (compact_entries (separated_of g))
  inside k b = omega (arith, list_long)

  component_sheet : Sheet (separated_of g) (layout_of z) (input_of z) (compact_entries (separated_of g))
  unfolding layout_of place compact_cell
  component_sheet =
      let e = sizes_of_lem g z Z in record {
        outputs = e.outputs;
        counters = e.counters;
        inputs = λ b l. rw (input_at b) (first_below (separated_of g) b (rw C.width at l));
        rows = record {
          long = sym list_long;
          row = λ o c b lo lc lb.
              any_default (compact_entries (separated_of g)) (place (layout_of z) o c b) 0 none_entry
              (rw (← list_long) (place_room (layout_of z) o c b lo lc lb))
              ∙ rw (input_at b, C.base, C.width, e.inputs, e.counters)
              (ap (λ (k : ℕ). get_or (compact_entries (separated_of g)) k none_entry) (omega arith)
              ∙ compact_cell_lem (separated_of g) o c b (omega (arith, e.outputs)) (omega (arith, e.counters)) (omega (arith, C.width)));
        };
      }

  starts_at : (i : ℕ) → i < (separated_of g).input.states
      → get_or (compact_entries (separated_of g)) i 0 ≡ entry (controller_start (separated_of g) i)
  starts_at i b =
      any_default (compact_entries (separated_of g)) i 0 none_entry (inside i (omega (arith, C.base, (sizes_of_lem g z Z).inputs))) ∙ compact_start (separated_of g) i b

  -- the ranks
  module _ {l m : List ℕ} (R : RanksWritten g l m) where
    rank_stands : (t : ℕ) → t < z.inputs → Right (compact_entries (separated_of g)) m (z.inputs + t)
    rank_stands t b =
        let e = (sizes_of_lem g z Z).inputs in record {
          is =
              ap (λ (n : ℕ). get_or m (n + t) 0) Z.inputs ∙ R.rank t (rw Z.inputs at b)
              ∙ sym
              (any_default (compact_entries (separated_of g)) (z.inputs + t) 0 none_entry (inside (z.inputs + t) (omega (arith, C.base)))
              ∙ ap (λ (n : ℕ). get_or (compact_entries (separated_of g)) (n + t) none_entry) e ∙ compact_rank (separated_of g) t (omega arith));
        }

    ranks_stand : (k : ℕ) → z.inputs ≤ k → k < z.base → Right (compact_entries (separated_of g)) m k
    ranks_stand k a b =
        let q : k ≡ z.inputs + (k - z.inputs) = omega arith in
        rw q (rank_stands (k - z.inputs) (omega (arith, C.base)))

    ranks_grown : Grows (compact_entries (separated_of g)) l m
    ranks_grown = record {
      long = R.long;
      rest = drop_same (length (compact_entries (separated_of g))) l m R.long (λ k b. R.rest k (omega (arith, list_long, C.base, Z.inputs)));
      kept = λ k b r. go k r (dec_lt k z.inputs) (dec_lt k z.base);
    }
      where
        go : (k : ℕ) → Right (compact_entries (separated_of g)) l k → Dec (k < z.inputs) → Dec (k < z.base) → Right (compact_entries (separated_of g)) m k
        go k r (yes a) d = record { is = R.front k (omega (arith, Z.inputs)) ∙ r.is }
        go k r (no a) (yes b) = ranks_stand k (omega arith) b
        go k r (no a) (no b) = record { is = R.rest k (omega (arith, C.base, Z.inputs)) ∙ r.is }

  -- the ranks, the starts and the rows are the table
  pub component_filled : {s : List ℕ} {inner : ℕ} {l m n r : List ℕ} → Given g z s inner → compact_length (separated_of g) ≤ length l → RanksWritten g l m
      → Starts z (sets_in s) inner (bits_of g.input.initial) (bits_of g.output.initial) z.inputs m n
      → ControllerFilled (separated_of g) z Every n r → r ≡ compact_entries (separated_of g) ++ drop (compact_length (separated_of g)) l
  component_filled {s} {inner} {l} {m} {n} {r} G long one two rows =
      table_filled g z s inner G E component_sheet starts_at (omega (arith, component_long)) (grows_more E (ranks_grown one) grown)
      (λ k b. stand k b (dec_lt k z.inputs)) rows
      ∙ ap (λ (k : ℕ). E ++ drop k l) (compact_entries_length (separated_of g))
    where
      E : List ℕ
      E = compact_entries (separated_of g)

      w : length_of z ≤ length m
      w = omega (arith, component_long, one.long)

      grown : Grows E m n
      grown = starts_grown g z s inner G E component_sheet starts_at w two

      stand : (k : ℕ) → k < z.base → Dec (k < z.inputs) → Right E n k
      stand k b (yes a) = starts_stand g z s inner G E component_sheet starts_at w two k (omega (arith, (sizes_of_lem g z Z).inputs))
      stand k b (no a) = grown.kept k (inside k b) (ranks_stand one k (omega arith) b)
