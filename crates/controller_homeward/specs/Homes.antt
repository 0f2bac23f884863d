-- Homes told from scratch s of n inputs.
--
--   lowest_is row reach d       == the lowest home of the row in reach is d
--   settled_at s n c reach d j  == d is the lowest home in reach of j, which is in a nontrivial component
--   lower_at s n d j            == the set of the homes of j below d
--   alike_at s n d homes j      == these are homes
--   reaches_at s n d o          == output o reaches d
--   avoids_at s n homes o       == it reaches none of the homes
--   near_at s n homes d o       == both
use Rattle.std.specs.Prelude.{ℕ, Bool, ◌&&◌, not, List, eqb}
use Rattle.finite.specs.Bounded.{least}
use Rattle.bits.specs.Member.{has, pack, both, sets_meet}
use Rattle.sets.specs.Words.{capacity}
use Rattle.scratch.specs.Stored.{row_at, out_reach_at}

unfoldable pub lowest_is : ℕ → ℕ → ℕ → Bool
lowest_is row reach d = eqb (least capacity (both row reach)) d

unfoldable pub settled_at : List ℕ → ℕ → ℕ → ℕ → ℕ → ℕ → Bool
settled_at s n c reach d j = has c j && lowest_is (row_at s n j) reach d

unfoldable pub lower_at : List ℕ → ℕ → ℕ → ℕ → ℕ
lower_at s n d j = pack d (has (row_at s n j))

unfoldable pub alike_at : List ℕ → ℕ → ℕ → ℕ → ℕ → Bool
alike_at s n d homes j = eqb (lower_at s n d j) homes

unfoldable pub reaches_at : List ℕ → ℕ → ℕ → ℕ → Bool
reaches_at s n d o = has (out_reach_at s n o) d

unfoldable pub avoids_at : List ℕ → ℕ → ℕ → ℕ → Bool
avoids_at s n homes o = not (sets_meet capacity (out_reach_at s n o) homes)

unfoldable pub near_at : List ℕ → ℕ → ℕ → ℕ → ℕ → Bool
near_at s n homes d o = reaches_at s n d o && avoids_at s n homes o
