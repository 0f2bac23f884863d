-- `settle`: no input has its home there, or the way home and the tour.
use Rattle.sets.specs.Words.{bits_of}
use Rattle.sets.proofs.Rows.{none, some}
use Rattle.scratch.proofs.Areas.{out_transitive}
use Rattle.controller_table.proofs.Setting.{table_of, scratch_long}
use Rattle.controller_table.proofs.Homes.{no_home, home_given, settled_here}
use native.Mathlib.Omega.{arith}
use Rattle.controller.proofs.settle.Goals as goal

pub inputs_with_home-inputs-requires : goal.inputs_with_home-inputs-requires
inputs_with_home-inputs-requires c =
    let t = table_of c.args.g c.args.z c.requires.0.sized _ c.requires.2 in
    (t.inputs, omega (arith, c.requires.1, t.outputs), omega (arith, scratch_long c.requires.0, c.requires.1), c.requires.6)

pub returns-then-is_empty : goal.returns-then-is_empty
returns-then-is_empty c =
    no_home c.args.g c.args.z c.args.s.now (bits_of c.args.c.0) c.requires.0 c.args.d.0 c.requires.1 c.inputs_with_home-inputs.result
    c.inputs_with_home-inputs.ensures (none _ c.is_empty.ensures c.if-is_empty.true) c.args.room.now

pub row_of-requires : goal.row_of-requires
row_of-requires c =
    let t = table_of c.args.g c.args.z c.requires.0.sized _ c.requires.2 in
    omega (arith, c.requires.1, t.outputs)

pub out_component-component-requires : goal.out_component-component-requires
out_component-component-requires c =
    let t = table_of c.args.g c.args.z c.requires.0.sized _ c.requires.2 in
    let Z = c.requires.0.sized in
    (t.inputs, t.outputs, c.requires.1, scratch_long c.requires.0, rw (Z.inputs, Z.outputs) (out_transitive c.requires.0.ready.laid))

pub approach-requires : goal.approach-requires
approach-requires c = (
  c.requires.0,
  home_given c.args.g c.args.z c.args.s.now (bits_of c.args.c.0) c.requires.0 c.args.d.0 c.requires.1 c.inputs_with_home-inputs.result
      c.inputs_with_home-inputs.ensures _ (some _ c.is_empty.ensures c.if-is_empty.false) c.out_component-component.ensures,
  c.requires.2,
  c.requires.4,
  c.requires.6,
)

pub tour-requires : goal.tour-requires
tour-requires c = (
  c.requires.0.sized,
  home_given c.args.g c.args.z c.args.s.now (bits_of c.args.c.0) c.requires.0 c.args.d.0 c.requires.1
      c.inputs_with_home-inputs.result c.inputs_with_home-inputs.ensures _ (some _ c.is_empty.ensures c.if-is_empty.false) c.out_component-component.ensures,
  omega (arith, c.requires.2, c.approach.ensures.long),
  c.requires.3,
  c.requires.4,
  c.requires.5,
)

pub returns : goal.returns
returns c =
    settled_here _ _ _ c.approach.ensures c.tour.ensures
