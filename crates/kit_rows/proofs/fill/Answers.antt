-- `fill`: the starts, then the rows of one output after the other, and scratch cleared.
use mathlib.Core.Path.{refl, ◌∙◌}
use native.Mathlib.Omega.{arith}
use Rattle.scratch_clearing.proofs.Clearing.{cleared_same}
use Rattle.kit_rows.proofs.Cleared.{cleared_length}
use Rattle.kit_rows.proofs.Search.{lent_none, lent_more}
use Rattle.kit_rows.proofs.Kits.{modes_in, modes_room, ready_long, outputs_long, outputs_none, outputs_next, outputs_all}
use Rattle.kit_rows.proofs.fill.Goals as goal

pub starts-requires : goal.starts-requires
starts-requires c =
    (modes_in _ c.args.controller.now _ _ c.requires.0, modes_room _ c.args.controller.now _ _ c.requires.0)

pub loop-o-init : goal.loop-o-init
loop-o-init c =
    (omega arith, outputs_none _ c.args.controller.now _ _ c.requires.0 _, lent_none _ _)

pub output_rows-requires : goal.output_rows-requires
output_rows-requires c = (
  ready_long _ c.args.controller.now _ _ c.requires.0 _
      (outputs_long _ c.args.controller.now _ _ c.requires.0 c.loop-o.invariant.1 ∙ c.starts.ensures.long),
  c.loop-o-test.true,
  omega (arith, c.requires.1, c.loop-o.invariant.2.long),
)

pub loop-o-preserved : goal.loop-o-preserved
loop-o-preserved c = (
  omega (arith, c.loop-o-test.true),
  outputs_next _ c.args.controller.now _ _ c.requires.0 _ c.loop-o.invariant.1 c.output_rows.ensures.0 refl,
  lent_more c.loop-o.invariant.2 c.output_rows.ensures.1,
)

pub clear-requires : goal.clear-requires
clear-requires c =
    omega (arith, c.requires.1, c.loop-o.invariant.2.long)

pub shape_of-scratch : goal.shape_of-scratch
shape_of-scratch c =
    cleared_length _ _ _ (omega (arith, c.requires.1, c.loop-o.invariant.2.long)) c.clear.ensures ∙ c.loop-o.invariant.2.long

pub shape_of-room : goal.shape_of-room
shape_of-room c =
    outputs_long _ c.args.controller.now _ _ c.requires.0 c.loop-o.invariant.1 ∙ c.starts.ensures.long

pub returns : goal.returns
returns c = (
  outputs_all _ c.args.controller.now _ _ c.requires.0 _ refl c.loop-o.invariant.0 c.loop-o-test.false c.starts.ensures refl c.loop-o.invariant.1,
  c.clear.ensures ∙ cleared_same _ _ _ c.loop-o.invariant.2.rest,
)
