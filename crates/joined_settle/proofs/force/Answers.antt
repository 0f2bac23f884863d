-- `force`.
use mathlib.Core.Path.{◌∙◌}
use native.Mathlib.Omega.{arith}
use Rattle.joined_settle.proofs.Whole.{swept_self, swept_then}
use Rattle.joined_settle.proofs.force.Goals as goal

pub loop-g-init : goal.loop-g-init
loop-g-init c = (swept_self _ _, c.requires.2)

pub add_forced-requires : goal.add_forced-requires
add_forced-requires c =
    (c.requires.0, omega (arith, c.requires.1, c.loop-g.invariant.0.kept.long), c.loop-g.invariant.1, c.requires.3, c.requires.4)

pub loop-g-smaller : goal.loop-g-smaller
loop-g-smaller c = c.add_forced.ensures.fewer c.loop-g-test.true

pub loop-g-preserved : goal.loop-g-preserved
loop-g-preserved c =
    (swept_then _ c.requires.0 c.loop-g.invariant.0 c.add_forced.ensures.swept, c.add_forced.ensures.growing)

pub shape_of-s : goal.shape_of-s
shape_of-s c =
    c.add_forced.ensures.swept.kept.long ∙ c.loop-g.invariant.0.kept.long

pub returns : goal.returns
returns c = (
  swept_then _ c.requires.0 c.loop-g.invariant.0 c.add_forced.ensures.swept,
  c.add_forced.ensures.growing,
  c.add_forced.ensures.ended c.loop-g-test.false,
)
