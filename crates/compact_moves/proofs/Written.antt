-- What is written, told by what the copying asks.
--
--   compact_fits_lem, compact_written    : the table in the compact layout, where the ranks are written already
--   full_fits_lem, full_written          : the table in the full layout
--   controller_long, ranks_in        : the lengths
use Prim.Native.Nat.{ℕ, ◌+◌, ◌*◌, ◌/◌, ◌%◌, ◌≤◌, ◌<◌}
use native.Mathlib.Nat.{add_assoc, div-add-mod', mul-le-mul}
use mathlib.Core.Path.{◌≡◌, sym, ◌∙◌, ap, ap₂, subst₂}
use mathlib.Core.Bool.{true}
use mathlib.Core.List.{List, ◌++◌}
use native.Mathlib.Omega.{arith}
use lib.ListN.{length, get_or, drop}
use Rattle.arena.specs.Arena.{Separated}
use Rattle.game.specs.declared.Game.{Game}
use Rattle.game.specs.Acceptance.{accepted, acceptance}
use Rattle.game.proofs.Laws.{accepted_fits}
use Rattle.play.specs.Play.{graph_of, separated_of}
use Rattle.theory.specs.Entries.{none_entry, controller_counters, controller_entries}
use Rattle.compact.specs.Rank.{component_count, rank_of, leader_of}
use Rattle.compact.specs.Compact.{full_length, compact_length, compact_cell, compact_row}
use Rattle.compact.specs.Moving.{to_compact, from_compact, ranks_fit, rows_fit}
use Rattle.compact.proofs.Rank.{rank_below, first_below, first_rank}
use Rattle.compact.proofs.Entries.{entries_length}
use Rattle.compact.proofs.Tests.{ranks_fit_elim}
use Rattle.compact.proofs.Moving.{to_length, start_over, rank_over, row_over, from_length, start_back, row_back}
use Rattle.graph_ranks.specs.Ranks.{RanksWritten}
use Rattle.theory.proofs.Demands.{controller_counts}
use Rattle.table_sizes.proofs.Lengths.{inputs_most}
use Rattle.finite.proofs.Lists.{any_default, drop_same}
use Rattle.compact_rows.specs.Copying.{FullFits, FullAgrees, FullFilled, CompactFits, CompactAgrees, CompactFilled}
use Rattle.compact_rows.proofs.Copying.{row_last, row_below, last_below}
use Rattle.compact_checks.proofs.Firsts.{row_is}

module _ (S : Separated) where
  abbrev I : ℕ
  I = S.input.states

  abbrev M : ℕ
  M = controller_counters S

  abbrev R : ℕ
  R = S.output.states * M

  abbrev C : ℕ
  C = component_count S

  cells_long : (l : List ℕ) → length l ≡ compact_length S → length l ≡ I + I + R * C
  unfolding compact_length
  cells_long l e = e ∙ sym (add_assoc I I (R * C))

  cell_is : (l : List ℕ) (x c : ℕ) → length l ≡ compact_length S → x < R → c < C
      → compact_cell S l (x / M) (x % M) c ≡ get_or l (I + I + x * C + c) 0
  unfolding compact_cell
  cell_is l x c e b h =
      ap (λ (r : ℕ). get_or l (I + (I + (r * C + c))) none_entry) (div-add-mod' x M)
      ∙ ap (λ (r : ℕ). get_or l r none_entry) (sym (add_assoc I I (x * C + c)) ∙ sym (add_assoc (I + I) (x * C) c))
      ∙ any_default l (I + I + x * C + c) none_entry 0 (omega (arith, row_last (I + I) x C R (length l) b (omega (arith, cells_long l e))))

  module _ (T : List ℕ) where
    -- over

    module _ (fits : rows_fit S T ≡ true) (long : length T ≡ full_length S) (m : List ℕ) (rank : (j : ℕ) → j < I → get_or m (I + j) 0 ≡ rank_of S j) where
      E : List ℕ
      E = to_compact S T

      E-long : length E ≡ I + I + R * C
      unfolding E
      E-long = cells_long (to_compact S T) (to_length S T)

      below : (j : ℕ) → j < I → get_or m (I + j) 0 < C
      below j b = omega (arith, rank j b, rank_below S j b)

      start_agrees : (i : ℕ) → i < I → get_or T i 0 ≡ get_or E i 0
      unfolding E full_length
      start_agrees i b =
          any_default T i 0 none_entry (omega arith) ∙ sym (start_over S T i b) ∙ any_default (to_compact S T) i none_entry 0 (omega (arith, E-long))

      rank_agrees : (j : ℕ) → j < I → get_or E (I + j) none_entry ≡ get_or m (I + j) 0
      unfolding E
      rank_agrees j b = rank_over S T j b ∙ sym (rank j b)

      row_agrees_lem : (x j : ℕ) → x < R → j < I → get_or T (I + x * I + j) 0 ≡ get_or E (I + I + x * C + get_or m (I + j) 0) 0
      unfolding E compact_row
      row_agrees_lem x j b h =
          sym (row_is S T x j long b h)
          ∙ sym (row_over S T fits (x / M) (x % M) j (row_below S.output.states M x b) (last_below S.output.states M x b) h)
          ∙ ap (compact_cell S (to_compact S T) (x / M) (x % M)) (rank_agrees j h)
          ∙ cell_is (to_compact S T) x (get_or m (I + j) 0) (to_length S T) b (below j h)

      rank_reached : (c : ℕ) → c < C → (j : ℕ) × (j < I) × (get_or m (I + j) 0 ≡ c)
      rank_reached c h = (leader_of S c, first_below S c h, rank (leader_of S c) (first_below S c h) ∙ first_rank S c h)

      compact_agrees : CompactAgrees (to_compact S T) T I C R m
      unfolding E
      compact_agrees = record {
        long = E-long;
        starts = start_agrees;
        ranks = λ j b. record { is = sym (rank_agrees j b) ∙ any_default (to_compact S T) (I + j) none_entry 0 (omega (arith, E-long)) };
        rows = row_agrees_lem;
      }

    -- back

    module _ (fits : ranks_fit S T ≡ true) (long : length T ≡ compact_length S) where
      ranked : (j : ℕ) → j < I → get_or T (I + j) 0 ≡ rank_of S j
      ranked j b = any_default T (I + j) 0 none_entry (omega (arith, cells_long T long)) ∙ ranks_fit_elim S T fits j b

      ranks_below : (j : ℕ) → j < I → get_or T (I + j) 0 < C
      ranks_below j b = omega (arith, ranked j b, rank_below S j b)

      full_agrees : FullAgrees (from_compact S T) T I C R
      unfolding compact_row full_length
      full_agrees = record {
        long = from_length S T;
        starts = λ i b.
            any_default T i 0 none_entry (omega (arith, cells_long T long)) ∙ sym (start_back S T i b)
            ∙ any_default (from_compact S T) i none_entry 0 (omega (arith, from_length S T));
        rows = λ x j b h.
            sym (cell_is T x (get_or T (I + j) 0) long b (ranks_below j h))
            ∙ ap (compact_cell S T (x / M) (x % M)) (any_default T (I + j) 0 none_entry (omega (arith, cells_long T long)))
            ∙ sym (row_back S T (x / M) (x % M) j (row_below S.output.states M x b) (last_below S.output.states M x b) h)
            ∙ row_is S (from_compact S T) x j (from_length S T) b h;
      }

-- of a game, the counts as the code has them

module _ (g : Game) (T : List ℕ) {c r : ℕ} (p : c ≡ component_count (separated_of g)) (q : r ≡ g.output.states * controller_counters (separated_of g)) where
  abbrev G : Separated
  G = separated_of g

  abbrev N : ℕ
  N = g.input.states

  full_length_is : N + r * N ≡ full_length G
  unfolding full_length separated_of graph_of
  full_length_is = ap (λ (x : ℕ). N + x * N) q

  compact_length_is : N + N + r * c ≡ compact_length G
  unfolding compact_length separated_of graph_of
  compact_length_is = ap₂ (λ (x y : ℕ). N + N + x * y) q p ∙ add_assoc N N (g.output.states * controller_counters G * component_count G)

  module _ (fits : rows_fit G T ≡ true) (long : length T ≡ full_length G) {l m : List ℕ} (W : RanksWritten g l m) where
    pub compact_fits_lem : acceptance g ≡ accepted → compact_length G ≤ length l → CompactFits T N c r m
    unfolding separated_of graph_of
    compact_fits_lem a b = record {
      few = omega (arith, inputs_most g a);
      some = omega (arith, q, mul-le-mul (accepted_fits g a).output.some (controller_counts G));
      table = omega (arith, long, full_length_is);
      ranks = λ j h. omega (arith, p, W.rank j h, rank_below G j h);
      reached = λ k h. rank_reached G T fits long m W.rank k (omega (arith, p));
      room = omega (arith, b, W.long, compact_length_is);
    }

    pub compact_written : {n : List ℕ} → CompactFilled T N c r m n → n ≡ to_compact G T ++ drop (compact_length G) l
    unfolding separated_of graph_of
    compact_written {n} F =
        F.front (to_compact G T) agrees
        ∙ ap (λ (k : ℕ). to_compact G T ++ drop k m) (to_length G T)
        ∙ ap (λ (x : List ℕ). to_compact G T ++ x) (drop_same (compact_length G) l m W.long (λ k h. W.rest k (omega (arith, compact_length_is))))
      where
        agrees : CompactAgrees (to_compact G T) T N c r m
        agrees = subst₂ (λ (y x : ℕ). CompactAgrees (to_compact G T) T N y x m) (sym p) (sym q) (compact_agrees G T fits long m W.rank)

  module _ (fits : ranks_fit G T ≡ true) (long : length T ≡ compact_length G) where
    pub full_fits_lem : (n : ℕ) → full_length G ≤ n → FullFits T N c r n
    unfolding separated_of graph_of
    full_fits_lem n b = record {
      table = omega (arith, long, compact_length_is);
      ranks = λ j h. omega (arith, p, ranks_below G T fits long j h);
      room = omega (arith, b, full_length_is);
    }

    pub full_written : {l n : List ℕ} → FullFilled T N c r l n → n ≡ from_compact G T ++ drop (full_length G) l
    unfolding separated_of graph_of
    full_written {l} F = F.front (from_compact G T) agrees ∙ ap (λ (k : ℕ). from_compact G T ++ drop k l) (from_length G T)
      where
        agrees : FullAgrees (from_compact G T) T N c r
        agrees = subst₂ (λ (y x : ℕ). FullAgrees (from_compact G T) T N y x) (sym p) (sym q) (full_agrees G T fits long)

-- the full layout's length is that of the controller's table
pub controller_long : (g : Game) {n : ℕ} → n ≡ length (controller_entries (separated_of g)) → n ≡ full_length (separated_of g)
controller_long g e = e ∙ entries_length (separated_of g)

-- both layouts hold the starts, the compact one also the ranks
pub ranks_in : (g : Game) (n : ℕ) → compact_length (separated_of g) ≤ n → g.input.states + g.input.states ≤ n
unfolding compact_length separated_of graph_of
ranks_in g n b = omega arith
