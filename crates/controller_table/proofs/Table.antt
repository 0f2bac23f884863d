-- The whole table.
--
--   rows_filled     : the rows with no home in reach and the rows with a home are all rows
--   starts_grown, starts_stand : the starts
--   table_filled    : what comes before the rows, and the rows, are all entries
use Prim.Native.Nat.{ℕ, ◌≤◌, ◌<◌}
use mathlib.Core.Path.{◌≡◌, refl}
use mathlib.Core.Bool.{false}
use mathlib.Core.List.{List, ◌++◌}
use mathlib.Core.Logic.{◌⊎◌, inl, inr}
use native.Mathlib.Omega.{arith}
use native.Mathlib.Decide.{dec_lt}
use lib.ListN.{length, get_or, drop}
use Rattle.finite.proofs.Truth.{decide, same_test}
use Rattle.bits.specs.Member.{has}
use Rattle.graphs.specs.Graph.{begins}
use Rattle.graphs.proofs.Graph.{begins_initial, begins_intro}
use Rattle.graphs.proofs.Closure.{reaches_to}
use Rattle.table_filling.specs.Grows.{Right, Grows}
use Rattle.table_filling.proofs.Grows.{grows_more, grows_done}
use Rattle.game.specs.declared.Game.{Game}
use Rattle.game.specs.declared.Graph.{Graph as Record}
use Rattle.game.proofs.Laws.{Fits, GraphFits}
use Rattle.play.specs.Play.{graph_of, separated_of}
use Rattle.sets.specs.Words.{bits_of, sets_in}
use Rattle.scratch.specs.Stored.{row_at, out_reach_at}
use Rattle.theory.specs.Choice.{home, controller_start}
use Rattle.theory.specs.Entries.{entry, controller_counters}
use Rattle.theory.proofs.ControllerRow.{home_reached}
use Rattle.controller_rows.specs.declared.Size.{Size}
use Rattle.controller_rows.specs.Writes.{input_of, layout_of, length_of, settles_at, Plains, start_of, Starts}
use Rattle.table_layout.specs.Rows.{Filled as FilledIn}
use Rattle.controller_table.specs.Filled.{Sheet, ControllerFilled, Every, Below, Given}
use Rattle.controller_table.proofs.Cells.{cell_of_lem}
use Rattle.theory.proofs.Demands.{controller_counts}
use Rattle.controller_table.proofs.Fills.{filled_more, filled_part}
use Rattle.controller_table.proofs.Told.{Told, settled, settled_core}
use Rattle.controller_table.proofs.Entries.{start_entry_lem}
use Rattle.controller_table.proofs.Loops.{fills_plains, starts_grow, starts_right}
use Rattle.controller_table.proofs.Setting.{fits_of, sizes_of_lem, told_of}

-- an initial state, told by the set
initial_begins : (h : Record) → GraphFits h → (s : ℕ) → has (bits_of h.initial) s ≡ begins (graph_of h) s
unfolding graph_of
initial_begins h F s =
    same_test (has (bits_of h.initial) s) (begins (graph_of h) s) (λ e. begins_intro (graph_of h) s (F.initial_below s e) e)
    (λ e. begins_initial (graph_of h) s e)

module _ (g : Game) (z : Size) (s : List ℕ) (inner : ℕ) (G : Given g z s inner) where
  T : Told (separated_of g) (sets_in s) z.inputs inner (sets_in g.output.moves)
  T = told_of g z s inner G

  -- the value of a start
  module _ (F : Fits g) where
    start_value : (i : ℕ) → i < (separated_of g).input.states
        → start_of z (sets_in s) inner (bits_of g.input.initial) (bits_of g.output.initial) i ≡ entry (controller_start (separated_of g) i)
    unfolding separated_of graph_of
    start_value i b =
        start_entry_lem (separated_of g) (sets_in s) z.inputs inner (sets_in g.output.moves) T z refl (sizes_of_lem g z G.sized).outputs
        (bits_of g.input.initial) (bits_of g.output.initial) i b
        (initial_begins g.input F.input i) (initial_begins g.output F.output)

  -- the rows with no home in reach, and those with one
  pub rows_filled : {l m r : List ℕ} → length_of z ≤ length l → Plains z (sets_in s) inner (sets_in g.output.moves) z.outputs l m
      → ControllerFilled (separated_of g) z (Below (separated_of g) z.outputs) m r → ControllerFilled (separated_of g) z Every l r
  rows_filled {l} {m} long two three =
      filled_part (separated_of g) z row
      (filled_more (separated_of g) z
      ((fills_plains (separated_of g) z (sizes_of_lem g z G.sized) (sets_in s) inner (sets_in g.output.moves) T).fills l m two long) three)
    where
      row : (o c j : ℕ) → o < (separated_of g).output.states → c < controller_counters (separated_of g) → j < (separated_of g).input.states → Every o c j
          → (settles_at inner j (row_at (sets_in s) z.inputs j) (out_reach_at (sets_in s) z.inputs o) ≡ false) ⊎ Below (separated_of g) z.outputs o c j
      row o c j a b d h =
          elim (decide (settles_at inner j (row_at (sets_in s) z.inputs j) (out_reach_at (sets_in s) z.inputs o))) [
            | inl t ↦
                let e = settled (separated_of g) (sets_in s) z.inputs inner (sets_in g.output.moves) T j o d a t in
                inr
                (record {
                  has_home = record {
                    is_nontrivial = settled_core (separated_of g) (sets_in s) z.inputs inner (sets_in g.output.moves) T j o d a t;
                    settled = e;
                    is = refl;
                  };
                  below =
                      rw (sizes_of_lem g z G.sized).outputs
                      (reaches_to (separated_of g).output o (home (separated_of g) j o) (home_reached (separated_of g) j o e));
                })
            | inr t ↦ inl t
          ]

  -- a list E whose first entries are the starts
  module _ (E : List ℕ) (R : Sheet (separated_of g) (layout_of z) (input_of z) E)
      (starts : (i : ℕ) → i < (separated_of g).input.states → get_or E i 0 ≡ entry (controller_start (separated_of g) i)) where
    is_long : length E ≡ length_of z
    unfolding layout_of
    is_long = R.rows.long

    module _ {l m : List ℕ} (long : length_of z ≤ length l)
        (one : Starts z (sets_in s) inner (bits_of g.input.initial) (bits_of g.output.initial) z.inputs l m) where
      some : (separated_of g).input.states ≤ length E
      some = omega (arith, is_long, G.sized.starts, (sizes_of_lem g z G.sized).inputs)

      pub starts_grown : Grows E l m
      starts_grown =
          starts_grow (separated_of g) z (sizes_of_lem g z G.sized).inputs (sets_in s) inner (bits_of g.input.initial) (bits_of g.output.initial)
          (start_value (fits_of g z G.sized)) E some starts one (omega (arith, is_long))

      pub starts_stand : (k : ℕ) → k < (separated_of g).input.states → Right E m k
      starts_stand =
          starts_right (separated_of g) z (sizes_of_lem g z G.sized).inputs (sets_in s) inner (bits_of g.input.initial) (bits_of g.output.initial)
          (start_value (fits_of g z G.sized)) E some starts one (omega (arith, is_long))

    -- where what comes before the rows stands, and then every row is written, the list stands in the buffer
    pub table_filled : {l m r : List ℕ} → length_of z ≤ length l → Grows E l m → ((k : ℕ) → k < z.base → Right E m k)
        → ControllerFilled (separated_of g) z Every m r → r ≡ E ++ drop (length E) l
    unfolding layout_of
    table_filled {l} {m} {r} long front stand rows =
        grows_done E l r (omega (arith, is_long)) (grows_more E front filled.grows) (λ k b. go k b (dec_lt k z.base))
      where
        filled : FilledIn (layout_of z) E (λ o c b. Every o c (input_of z b)) m r
        filled = rows.fills E R

        go : (k : ℕ) → k < length E → Dec (k < z.base) → Right E r k
        go k b (yes a) = filled.grows.kept k b (stand k a)
        go k b (no a) =
            let v = cell_of_lem (layout_of z) (rw G.sized.counters (controller_counts (separated_of g))) k (omega arith) (omega (arith, is_long)) in
            rw v.is (filled.rows v.output v.counter v.column v.output_below v.counter_below v.column_below (record {}))
