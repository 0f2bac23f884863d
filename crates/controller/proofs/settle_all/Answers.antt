-- `settle_all` goes through the homes.
use mathlib.Core.Path.{◌≡◌}
use Rattle.controller_table.proofs.Homes.{homes_none, homes_next}
use native.Mathlib.Omega.{arith}
use Rattle.controller.proofs.settle_all.Goals as goal

pub loop-d-init : goal.loop-d-init
loop-d-init c = (omega arith, homes_none _ _ _)

pub settle-requires : goal.settle-requires
settle-requires c =
    (c.requires.0, omega arith, omega (arith, c.requires.1, c.loop-d.invariant.1.long), c.requires.2, c.requires.3, c.requires.4, c.requires.5)

pub loop-d-preserved : goal.loop-d-preserved
loop-d-preserved c =
    (omega arith, homes_next _ _ c.loop-d.d c.loop-d.invariant.1 c.settle.ensures)

pub shape_of-room : goal.shape_of-room
shape_of-room c = c.loop-d.invariant.1.long

pub returns : goal.returns
returns c =
    let e : c.loop-d.d ≡ c.args.z.outputs = omega arith in
    rw e at c.loop-d.invariant.1
