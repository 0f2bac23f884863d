-- `keep_safe`.
use mathlib.Core.Path.{◌∙◌}
use native.Mathlib.Omega.{arith}
use Rattle.joined_settle.proofs.Whole.{swept_self, swept_then}
use Rattle.joined_settle.proofs.keep_safe.Goals as goal

pub loop-g-init : goal.loop-g-init
loop-g-init c = (swept_self _ _, c.requires.2)

pub drop_unsafe-requires : goal.drop_unsafe-requires
drop_unsafe-requires c =
    (c.requires.0, omega (arith, c.requires.1, c.loop-g.invariant.0.kept.long), c.loop-g.invariant.1, c.requires.3, c.requires.4)

pub loop-g-smaller : goal.loop-g-smaller
loop-g-smaller c = c.drop_unsafe.ensures.fewer c.loop-g-test.true

pub loop-g-preserved : goal.loop-g-preserved
loop-g-preserved c =
    (swept_then _ c.requires.0 c.loop-g.invariant.0 c.drop_unsafe.ensures.swept, c.drop_unsafe.ensures.shrinking)

pub shape_of-s : goal.shape_of-s
shape_of-s c =
    c.drop_unsafe.ensures.swept.kept.long ∙ c.loop-g.invariant.0.kept.long

pub returns : goal.returns
returns c = (
  swept_then _ c.requires.0 c.loop-g.invariant.0 c.drop_unsafe.ensures.swept,
  c.drop_unsafe.ensures.shrinking,
  c.drop_unsafe.ensures.ended c.loop-g-test.false,
)
