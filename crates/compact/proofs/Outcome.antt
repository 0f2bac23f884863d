-- The table read through the compact layout is the same table, so demand 3 carries over.
--
--   same_table           : the solver's table, read from either layout
--   same_over, same_back : a stored table and the same table moved over, or back
--   wins_over, wins_back : a stored table that wins still wins when it is moved
--   compact_demand_three : demand 3 of the compact layout
use Prim.Native.Nat.{ℕ, ◌<◌}
use mathlib.Core.Path.{◌≡◌, refl, sym, ◌∙◌, ap, subst, subst⁻¹}
use mathlib.Core.Bool.{true, false}
use mathlib.Core.List.{List}
use mathlib.Core.Logic.{inl, inr}
use lib.ListN.{get_or}
use Rattle.finite.proofs.Truth.{decide}
use Rattle.arena.specs.Arena.{Separated, arena_of}
use Rattle.arena.specs.Table.{ControllerTable}
use Rattle.arena.specs.Win.{ControllerWins, system, environment, DemandThree}
use Rattle.arena.proofs.Bounds.{bounded_arena_of}
use Rattle.theory.specs.Region.{verdict}
use Rattle.theory.specs.Entries.{
  none_entry,
  answer,
  controller_counters,
  environment_counters,
  controller_entries,
  environment_entries,
  controller_table,
  environment_table,
  outcome,
}
use Rattle.theory.proofs.Entries.{Sized}
use Rattle.theory.proofs.Demands.{demand_three}
use Rattle.compact.specs.Compact.{compact_entries, full_row, compact_row, compact_table, compact_outcome}
use Rattle.compact.specs.Moving.{to_compact, from_compact, rows_fit}
use Rattle.compact.specs.Claims.{Same, full_table}
use Rattle.compact.proofs.Entries.{rows_equal, starts_equal}
use Rattle.compact.proofs.Moving.{start_over, row_over, start_back, row_back}
use Rattle.compact.proofs.Same.{same_sym, same_wins}

module _ (S : Separated) where
  abbrev old_table : List ℕ → ControllerTable
  old_table = full_table S

  -- a list of the full layout and one of the compact that have the same starts and rows are the same table
  module _ (l m : List ℕ) (s : (i : ℕ) → i < S.input.states → get_or m i none_entry ≡ get_or l i none_entry)
      (h : (o g j : ℕ) → o < S.output.states → g < controller_counters S → j < S.input.states → compact_row S m o g j ≡ full_row S l o g j) where
    same_lists : Same (arena_of S) (old_table l) (compact_table S m)
    unfolding arena_of full_table controller_table compact_table full_row
    same_lists = record {
      memories = refl;
      starts = λ i b. ap answer (sym (s i b));
      steps = λ g o j lg lo lj. ap answer (sym (h o g j lo lg lj));
    }

  pub same_table : Same (arena_of S) (old_table (controller_entries S)) (compact_table S (compact_entries S))
  same_table = same_lists (controller_entries S) (compact_entries S) (starts_equal S) (rows_equal S)

  same_over : (l : List ℕ) → rows_fit S l ≡ true → Same (arena_of S) (old_table l) (compact_table S (to_compact S l))
  same_over l h = same_lists l (to_compact S l) (start_over S l) (row_over S l h)

  same_back : (l : List ℕ) → Same (arena_of S) (old_table (from_compact S l)) (compact_table S l)
  same_back l =
      same_lists (from_compact S l) l (λ i b. sym (start_back S l i b)) (λ o g j lo lg lj. sym (row_back S l o g j lo lg lj))

  -- a stored table that wins still wins when it is moved

  pub wins_over : (l : List ℕ) → rows_fit S l ≡ true → ControllerWins (arena_of S) (old_table l)
      → ControllerWins (arena_of S) (compact_table S (to_compact S l))
  wins_over l h w = same_wins (bounded_arena_of S) (old_table l) (compact_table S (to_compact S l)) (same_over l h) w

  pub wins_back : (l : List ℕ) → ControllerWins (arena_of S) (compact_table S l) → ControllerWins (arena_of S) (old_table (from_compact S l))
  wins_back l w = same_wins (bounded_arena_of S) (compact_table S l) (old_table (from_compact S l)) (same_sym (same_back l)) w

  -- demand 3

  demand_old : DemandThree (arena_of S) (system (old_table (controller_entries S))) → DemandThree (arena_of S) (system (compact_table S (compact_entries S)))
  unfolding DemandThree
  demand_old d = (same_wins (bounded_arena_of S) (old_table (controller_entries S)) (compact_table S (compact_entries S)) same_table d.0, d.1)

  old_system : verdict S ≡ true → outcome S ≡ system (old_table (controller_entries S))
  unfolding outcome full_table
  old_system v = rw (v, outcome) refl

  old_environment : verdict S ≡ false → outcome S ≡ environment (environment_table S.output.states (environment_counters S) (environment_entries S))
  unfolding outcome
  old_environment v = rw (v, outcome) refl

  new_system : verdict S ≡ true → compact_outcome S ≡ system (compact_table S (compact_entries S))
  unfolding compact_outcome
  new_system v = rw (v, compact_outcome) refl

  new_environment : verdict S ≡ false → compact_outcome S ≡ environment (environment_table S.output.states (environment_counters S) (environment_entries S))
  unfolding compact_outcome
  new_environment v = rw (v, compact_outcome) refl

  -- Demand 3 of the compact layout: the side that the verdict names holds a winning table, a controller's being read from the compact layout, and no table of
  -- any finite size wins for the other side.
  pub compact_demand_three : Sized S → DemandThree (arena_of S) (compact_outcome S)
  compact_demand_three Z =
      elim (decide (verdict S)) [
        | inl v ↦ subst⁻¹ (DemandThree (arena_of S)) (new_system v) (demand_old (subst (DemandThree (arena_of S)) (old_system v) (demand_three S Z)))
        | inr v ↦ subst (DemandThree (arena_of S)) (old_environment v ∙ sym (new_environment v)) (demand_three S Z)
      ]
