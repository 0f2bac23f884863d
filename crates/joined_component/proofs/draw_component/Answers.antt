-- `draw_component`.
use Prim.Native.Nat.{ℕ, ◌<◌}
use mathlib.Core.Path.{sym, ◌∙◌, ap}
use Rattle.bits.specs.Member.{has}
use native.Mathlib.Omega.{arith}
use Rattle.joined_component.proofs.Drawing.{drawing_start, drawing_row, drawing_more, drawing_end}
use Rattle.joined_component.proofs.draw_component.Goals as goal

pub loop-i-init : goal.loop-i-init
loop-i-init c = (omega arith, drawing_start _ _ _)

pub ranked_row-row-requires : goal.ranked_row-row-requires
ranked_row-row-requires c =
    let few : c.loop-i.i < 32 = omega (arith, c.requires.0.inputs) in (
      c.requires.0.outputs,
      few,
      omega (arith, c.loop-i.invariant.1.kept.long),
      λ o h. c.requires.2.outputs c.loop-i.i o (omega arith) (ap (λ (x : ℕ). has x o) (sym (drawing_row _ _ _ _ _ c.loop-i.invariant.1 few)) ∙ h),
    )

pub loop-i-preserved : goal.loop-i-preserved
loop-i-preserved c =
    (omega arith, drawing_more _ _ c.loop-i.i _ _ c.loop-i.invariant.1 _ (omega (arith, c.requires.0.inputs)) c.requires.1 c.ranked_row-row.ensures)

pub shape_of-s : goal.shape_of-s
shape_of-s c = c.loop-i.invariant.1.kept.long

pub returns : goal.returns
returns c = drawing_end _ _ c.loop-i.i _ _ c.loop-i.invariant.1 (omega arith)
