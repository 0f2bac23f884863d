-- `counter_rows` goes through the old modes.
use Prim.Native.Nat.{◌≤◌, ◌+◌, ◌*◌}
use mathlib.Core.Path.{refl}
use native.Mathlib.Omega.{arith}
use Rattle.kit_rows.proofs.Blocks.{block_small, mode_fits, counted_none, counted_next, counted_end}
use Rattle.kit_rows.proofs.counter_rows.Goals as goal

pub loop-i-init : goal.loop-i-init
loop-i-init c = (omega arith, counted_none _ _ _ _ _ _)

pub overflow_add-first : goal.overflow_add-first
overflow_add-first c = omega (arith, c.requires.small, c.loop-i-test.true)

pub overflow_mul-first : goal.overflow_mul-first
overflow_mul-first c =
    let product : (c.args.first + c.loop-i.i) * c.args.commands ≤ 8388608 = let p = c.requires in
    block_small _ _ (omega (arith, p.small, c.loop-i-test.true)) p.few in
    omega (arith, product)

pub overflow_add-modes : goal.overflow_add-modes
overflow_add-modes c =
    let product : (c.args.first + c.loop-i.i) * c.args.commands ≤ 8388608 = let p = c.requires in
    block_small _ _ (omega (arith, p.small, c.loop-i-test.true)) p.few in
    omega (arith, product, c.requires.modes)

pub mode_rows-requires : goal.mode_rows-requires
mode_rows-requires c =
    let p = c.requires in
    mode_fits _ _ _ _ _ _ _ _ p c.loop-i-test.true c.loop-i.invariant.1.long

pub loop-i-preserved : goal.loop-i-preserved
loop-i-preserved c =
    (omega arith, counted_next _ _ _ _ _ c.loop-i.i c.loop-i-test.true c.loop-i.invariant.1 c.mode_rows.ensures refl)

pub shape_of-room : goal.shape_of-room
shape_of-room c = c.loop-i.invariant.1.long

pub returns : goal.returns
returns c = counted_end _ _ _ _ _ _ c.loop-i.invariant.0 c.loop-i-test.false c.loop-i.invariant.1
