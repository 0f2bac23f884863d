-- Whether the system can begin.
--
--   opens_with g i o       == o is initial and won with i
--   opens_if g i           == i is not initial, or some initial output is won with it
use Rattle.std.specs.Prelude.{ℕ, Bool, ◌&&◌, ◌||◌, not}
use Rattle.bits.specs.Member.{has}
use Rattle.sets.specs.Words.{bits_of}
use Rattle.game.specs.declared.Game.{Game}
use Rattle.play.specs.Play.{separated_of}
use Rattle.theory.specs.Region.{region, opens}

unfoldable pub opens_with : Game → ℕ → ℕ → Bool
opens_with g i o = has (bits_of g.output.initial) o && region (separated_of g) i o

unfoldable pub opens_if : Game → ℕ → Bool
opens_if g i = not (has (bits_of g.input.initial) i) || opens (separated_of g) i
