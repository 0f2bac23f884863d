-- The claims of every accepted game.
--
--   rows_by_component     : the claims
--   never_stopped         : "its side never gets stuck first" (M-102), of the table read through the compact layout
use mathlib.Core.Path.{◌≡◌}
use Rattle.arena.specs.Stopped.{NeverStopped}
use Rattle.arena.proofs.Bounds.{bounded_arena_of}
use Rattle.arena.proofs.Stopped as arena
use Rattle.game.specs.declared.Game.{Game}
use Rattle.game.specs.Acceptance.{accepted, acceptance}
use Rattle.play.specs.Play.{separated_of}
use Rattle.theory.proofs.Agree.{rows_agree}
use Rattle.demands.specs.Demands.{play_of}
use Rattle.demands.proofs.Sizes.{accepted_sized}
use Rattle.compact.specs.Compact.{compact_outcome}
use Rattle.compact.specs.Claims.{RowsByComponent}
use Rattle.compact.proofs.Rank.{rank_below, rank_joined, first_below, first_rank, rank_first, first_rises}
use Rattle.compact.proofs.Entries.{starts_equal, rows_equal, compact_entries_length}
use Rattle.compact.proofs.Moving.{over_entries, back_entries, to_fits, to_ranks, from_fits, from_rows, over_and_back, back_and_over}
use Rattle.compact.proofs.Outcome.{same_table, wins_over, wins_back, compact_demand_three}

pub rows_by_component : (g : Game) → acceptance g ≡ accepted → RowsByComponent g
unfolding play_of
rows_by_component g a = record {
  depends = λ o c j k lo e. rows_agree (separated_of g) j k e o c lo;
  below = rank_below (separated_of g);
  together = rank_joined (separated_of g);
  taken = λ c h. (first_below (separated_of g) c h, first_rank (separated_of g) c h);
  smallest = rank_first (separated_of g);
  rises = first_rises (separated_of g);
  entries = compact_entries_length (separated_of g);
  starts = starts_equal (separated_of g);
  rows = rows_equal (separated_of g);
  same = same_table (separated_of g);
  demand = compact_demand_three (separated_of g) (accepted_sized g a);
  over = over_entries (separated_of g);
  back = back_entries (separated_of g);
  over_and_back = over_and_back (separated_of g);
  back_and_over = back_and_over (separated_of g);
  over_fits = λ l. (to_fits (separated_of g) l, to_ranks (separated_of g) l);
  back_fits = λ l h. (from_fits (separated_of g) l, from_rows (separated_of g) l h);
  wins_over = wins_over (separated_of g);
  wins_back = wins_back (separated_of g);
}

pub never_stopped : (g : Game) → acceptance g ≡ accepted → NeverStopped (play_of g) (compact_outcome (separated_of g))
unfolding play_of
never_stopped g a =
    arena.never_stopped (bounded_arena_of (separated_of g)) (compact_outcome (separated_of g)) (rows_by_component g a).demand
