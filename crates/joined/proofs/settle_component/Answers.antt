-- `settle_component`.
use native.Mathlib.Omega.{arith}
use Rattle.joined.proofs.Steps.{unsettled, advanced}
use Rattle.joined.proofs.settle_component.Goals as goal

pub settle-requires : goal.settle-requires
settle-requires c = (
  c.requires.0,
  omega (arith, c.requires.1, c.close.ensures.kept.long, c.draw_component.ensures.kept.long),
  unsettled _ c.requires.0 _ _ _ _ c.requires.2 c.requires.3 c.requires.4 c.requires.5 c.requires.6 _ c.close.ensures _ c.draw_component.ensures,
  c.requires.7,
  c.requires.8,
)

pub returns : goal.returns
returns c =
    advanced _ c.requires.0 _ _ _ _ c.requires.2 c.requires.3 c.requires.4 c.requires.5 c.requires.6 _ c.close.ensures _ c.draw_component.ensures
    _ c.settle.ensures _ c.join.ensures
