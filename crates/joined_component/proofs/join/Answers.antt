-- `join`.
use native.Mathlib.Omega.{arith}
use Rattle.joined_component.proofs.Drawing.{joining_start, joining_more, joining_end}
use Rattle.joined_component.proofs.join.Goals as goal

pub loop-i-init : goal.loop-i-init
loop-i-init c = (omega arith, joining_start _ _)

pub loop-i-preserved : goal.loop-i-preserved
loop-i-preserved c =
    (omega arith, joining_more _ c.loop-i.i _ _ c.loop-i.invariant.1 c.requires.1 _ (omega (arith, c.requires.0.inputs)) c.requires.2 c.union.ensures)

pub shape_of-s : goal.shape_of-s
shape_of-s c = c.loop-i.invariant.1.kept.long

pub returns : goal.returns
returns c = joining_end _ _ c.loop-i.i _ _ c.loop-i.invariant.1 (omega arith)
