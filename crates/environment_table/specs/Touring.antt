-- Tours of a nontrivial component past the assumptions. The outputs that are left to a tour are a set `over`.
--
--   Count g n                 == there are n assumptions, few enough for a set of counters
--   Left g c over             == c is a nontrivial component, and over the outputs with which it has no way out
--   Aims g c q over M         == so it is, and q are the numbers of the goals
use Rattle.std.specs.Prelude.{ℕ, ◌≤◌, ◌≡◌, ◌≢◌, length}
use Rattle.bits.specs.Member.{pack}
use Rattle.game.specs.declared.Game.{Game}
use Rattle.game.specs.Acceptance.{accepted, acceptance}
use Rattle.play.specs.Play.{separated_of}
use Rattle.theory.specs.Choice.{assumptions}
use Rattle.sets.specs.Words.{capacity}
use Rattle.table_counters.specs.Counters.{most_counters}
use Rattle.table_goals.specs.Ranges.{met_in}
use Rattle.environment_table.specs.Pressing.{Whole, touring_at}

pub record Count (g : Game) (n : ℕ) : Type 0 where
  pub accepted : acceptance g ≡ accepted
  pub all : n ≡ length (assumptions (separated_of g))
  pub few : n ≤ most_counters
  pub inputs : g.input.states ≤ capacity

pub record Left (g : Game) (c over : ℕ) : Type 0 where
  pub first : ℕ
  pub whole : Whole g c first
  pub outputs : over ≡ pack g.output.states (touring_at g first)

pub record Aims (g : Game) (c q over M : ℕ) : Type 0 where
  pub left : Left g c over
  pub count : Count g M
  pub goals : q ≡ pack M (met_in (assumptions (separated_of g)) c)
  pub some : q ≢ 0
