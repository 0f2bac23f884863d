-- The sizes of the controller's table in its layouts.
--
--   ByInput z           == rows by input
--   ByComponent g z     == rows by component, behind the starts and the ranks; the smallest input of each component leads
use Rattle.std.specs.Prelude.{◌+◌, ◌≡◌}
use Rattle.bits.specs.Member.{pack}
use Rattle.sets.specs.Words.{bits_of}
use Rattle.game.specs.declared.Game.{Game}
use Rattle.play.specs.Play.{separated_of}
use Rattle.compact.specs.Rank.{leads, component_count}
use Rattle.controller_rows.specs.declared.Size.{Size}

-- "Controller: one start entry an input, then rows by output, counter, input" (SPEC 7.2)
pub record ByInput (z : Size) : Type 0 where
  pub base : z.base ≡ z.inputs
  pub width : z.width ≡ z.inputs

-- "starts as before, then the component's rank for each input, then rows by output, counter and component" (SPEC 11.1)
pub record ByComponent (g : Game) (z : Size) : Type 0 where
  pub base : z.base ≡ z.inputs + z.inputs
  pub width : z.width ≡ component_count (separated_of g)
  pub leaders : bits_of z.leaders.0 ≡ pack z.inputs (leads (separated_of g))
