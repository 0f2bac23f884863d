-- All sets of one side, guarantees or assumptions, numbered in file order: those of one requirement after those of the requirements before it.
--
--   SetsOf s q n t    == t are the sets of requirement q, the first of them number n of all
--   Upto s g r n      == the first r requirements have n sets
use Rattle.std.specs.Prelude.{ℕ, ◌*◌, ◌≤◌, ◌<◌, ◌≡◌, length, get_or}
use Rattle.sets.specs.Words.{bits_of, no_states}
use Rattle.game.specs.declared.Requirement.{Requirement}
use Rattle.game.specs.declared.Game.{Game}
use Rattle.table_goals.specs.declared.GoalRange.{GoalRange}
use Rattle.table_sizes.specs.Below.{Side, sets_below}

pub record SetsOf (s : Side) (q : Requirement) (n : ℕ) (t : GoalRange) : Type 0 where
  pub first : t.from ≡ n
  pub count : t.count ≡ s.count q
  pub sets : (j : ℕ) → j < 4 → bits_of (get_or t.sets j no_states) ≡ bits_of (s.set q j)

pub record Upto (s : Side) (g : Game) (r n : ℕ) : Type 0 where
  pub few : n ≤ 4 * r
  pub count : n ≡ length (sets_below s g r)
