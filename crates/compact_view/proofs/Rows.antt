-- The rows of the compact layout: one law for each return, and what a game's table reads.
--
--   none_range, none_components, none_rank, read_rank    : the returns
--   cell_small                                           : a row's place fits a word
use Prim.Native.Nat.{ℕ, ◌+◌, ◌*◌, ◌≤◌, ◌<◌}
use native.Mathlib.Nat.{mul-le-mul}
use mathlib.Core.Path.{◌≡◌, refl, sym, ◌∙◌, ap, subst}
use mathlib.Core.Bool.{true, false}
use mathlib.Core.List.{List}
use native.Mathlib.Omega.{arith}
use lib.ListN.{get_or}
use borrow.Author.Tests.{lt-ltb, le-ltb, le-leb, lt-leb}
use Rattle.sets.specs.Words.{capacity}
use Rattle.arena.specs.Arena.{Separated}
use Rattle.game.specs.declared.Game.{Game}
use Rattle.game.proofs.Laws.{accepted_fits}
use Rattle.play.specs.Play.{graph_of, separated_of}
use Rattle.theory.specs.Entries.{none_entry, controller_counters}
use Rattle.demands.proofs.Sizes.{controller_few}
use Rattle.compact.specs.Rank.{rank_of}
use Rattle.compact.specs.Compact.{full_row, compact_cell, compact_row}
use Rattle.compact.specs.Moving.{from_compact}
use Rattle.compact.proofs.Rank.{rank_below, components_le}
use Rattle.compact.proofs.Tests.{ranks_fit_elim}
use Rattle.compact.proofs.Moving.{row_back}
use Rattle.view.specs.Rows.{in_range}
use Rattle.view.proofs.Range.{in_range_lem, range_bounds}
use Rattle.compact_view.specs.Rows.{rank_entry, compact_entry, Ranked, Looked}

-- a row's place fits a word
pub cell_small : (I M C o g j : ℕ) → in_range I M o g j ≡ true → C ≤ I → (o * M + g) * C ≤ (capacity * 32 + 32) * capacity
cell_small I M C o g j h b =
    let B = range_bounds I M o g j h in
    let c : C ≤ capacity = omega (arith, B.inputs) in
    let d : o * M + g ≤ capacity * 32 + 32 = omega (arith, B.block, B.counter, B.counters) in
    mul-le-mul d c

module _ (l : List ℕ) (I M C o g j : ℕ) where
  abbrev rank : ℕ
  rank = get_or l (I + j) none_entry

  in_entry : in_range I M o g j ≡ true → C ≤ I → compact_entry l I M C o g j ≡ rank_entry l I M C o g rank
  unfolding compact_entry
  in_entry a b = rw (a, le-leb C I b, compact_entry) refl

  rank_entry_lem : rank < C → rank_entry l I M C o g rank ≡ get_or l (I + (I + ((o * M + g) * C + rank))) none_entry
  unfolding rank_entry
  rank_entry_lem b = rw (lt-ltb rank C b, rank_entry) refl

  -- a game's table has the row, and it is the full layout's

  module _ (G : Game) (R : Ranked G l I M C) (lo : o < G.output.states) (lg : g < M) (lj : j < I) where
    abbrev S : Separated
    S = separated_of G

    inputs_of_lem : S.input.states ≡ I
    unfolding separated_of graph_of
    inputs_of_lem = sym R.inputs

    outputs_of_lem : o < S.output.states
    unfolding separated_of graph_of
    outputs_of_lem = lo

    input_of : j < S.input.states
    input_of = subst (λ (n : ℕ). j < n) (sym inputs_of_lem) lj

    rank_of_lem : rank ≡ rank_of S j
    rank_of_lem = ap (λ (n : ℕ). get_or l (n + j) none_entry) (sym inputs_of_lem) ∙ ranks_fit_elim S l R.ranks j input_of

    rank_in : rank < C
    rank_in = omega (arith, rank_of_lem, rank_below S j input_of, R.components)

    row_in : in_range I M o g j ≡ true
    row_in =
        let F = accepted_fits G R.accepted in
        in_range_lem I M o g j (omega (arith, R.inputs, F.input.most)) (omega (arith, R.counters, controller_few G F)) (omega (arith, F.output.most)) lg lj

    few : C ≤ I
    few = omega (arith, R.components, components_le S, inputs_of_lem)

    at_dims : ℕ → ℕ → ℕ → ℕ
    at_dims n m c = get_or l (n + (n + ((o * m + g) * c + get_or l (n + j) none_entry))) none_entry

    cell_of_lem : get_or l (I + (I + ((o * M + g) * C + rank))) none_entry ≡ compact_row S l o g j
    unfolding compact_row compact_cell at_dims
    cell_of_lem =
        ap (λ (n : ℕ). at_dims n M C) (sym inputs_of_lem) ∙ ap (λ (m : ℕ). at_dims S.input.states m C) R.counters
        ∙ ap (at_dims S.input.states (controller_counters S)) R.components

    game_row : compact_entry l I M C o g j ≡ full_row S (from_compact S l) o g j
    game_row =
        in_entry row_in few ∙ rank_entry_lem rank_in ∙ cell_of_lem
        ∙ sym (row_back S l o g j outputs_of_lem (subst (λ (n : ℕ). g < n) R.counters lg) input_of)

  looked : (r : ℕ) → r ≡ compact_entry l I M C o g j → Looked l I M C o g j r
  looked r e = record { entry = e; row = λ G R lo lg lj. e ∙ game_row G R lo lg lj }

  pub none_range : in_range I M o g j ≡ false → Looked l I M C o g j none_entry
  unfolding compact_entry
  none_range h = looked none_entry (rw (h, compact_entry) refl)

  pub none_components : in_range I M o g j ≡ true → I < C → Looked l I M C o g j none_entry
  unfolding compact_entry
  none_components h b = looked none_entry (rw (h, lt-leb C I b, compact_entry) refl)

  module _ (a : in_range I M o g j ≡ true) (b : C ≤ I) {c : ℕ} (q : c ≡ rank) where
    pub none_rank : C ≤ c → Looked l I M C o g j none_entry
    unfolding rank_entry
    none_rank h = looked none_entry (sym (in_entry a b ∙ rw (le-ltb rank C (omega arith), rank_entry) refl))

    pub read_rank : {r : ℕ} → c < C → r ≡ get_or l (I + (I + ((o * M + g) * C + c))) none_entry → Looked l I M C o g j r
    read_rank {r} h e =
        looked r
        (e ∙ ap (λ (k : ℕ). get_or l (I + (I + ((o * M + g) * C + k))) none_entry) q ∙ sym (in_entry a b ∙ rank_entry_lem (omega arith)))
