-- What is written for an accepted game.
--
--   Written g s s' c c' e e' r == the winner's table is written, and r says whether that is the system's; scratch s is left as s', the controller's
--                                 buffer c as c' and the environment's e as e'
--   WrittenCompact ..          == the same, the controller's table with its rows by component, and r being its length, or 0
use Rattle.std.specs.Prelude.{ℕ, ◌≡◌, Bool, true, false, List, ◌++◌, length, drop}
use Rattle.game.specs.declared.Game.{Game}
use Rattle.play.specs.Play.{separated_of}
use Rattle.theory.specs.Region.{verdict}
use Rattle.theory.specs.Entries.{controller_entries, environment_entries}
use Rattle.compact.specs.Compact.{compact_length, compact_entries}
use Rattle.scratch_clearing.specs.Clearing.{cleared}
use Rattle.scratch.specs.Scratch.{scratch_length}

-- what is written for an accepted game whose buffers are long enough
pub record Written (g : Game) (s s' c c' e e' : List ℕ) (r : Bool) : Type 0 where
  pub wins : r ≡ verdict (separated_of g)
  pub scratch : s' ≡ cleared (scratch_length g) s
  pub controller : c' ≡ elim r as (λ x. List ℕ) [
    | true ↦ controller_entries (separated_of g) ++ drop (length (controller_entries (separated_of g))) c
    | false ↦ c
  ]
  pub environment : e' ≡ elim r as (λ x. List ℕ) [
    | true ↦ e
    | false ↦ environment_entries (separated_of g) ++ drop
        (length (environment_entries (separated_of g))) e
  ]

-- the answer is the length of the system's table, 0 where the environment's is written
pub record WrittenCompact (g : Game) (s s' c c' e e' : List ℕ) (r : ℕ) : Type 0 where
  pub wins : r ≡ elim (verdict (separated_of g)) as (λ x. ℕ) [ true ↦ compact_length (separated_of g) | false ↦ 0 ]
  pub scratch : s' ≡ cleared (scratch_length g) s
  pub controller : c' ≡ elim (verdict (separated_of g)) as (λ x. List ℕ) [
    | true ↦ compact_entries (separated_of g) ++ drop (compact_length (separated_of g)) c
    | false ↦ c
  ]
  pub environment : e' ≡ elim (verdict (separated_of g)) as (λ x. List ℕ) [
    | true ↦ e
    | false ↦ environment_entries (separated_of g) ++ drop
        (length (environment_entries (separated_of g))) e
  ]
