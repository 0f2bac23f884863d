-- `enter`.
use Prim.Native.Nat.{◌<◌}
use native.Mathlib.Omega.{arith}
use Rattle.joined_reach.proofs.Words.{move_below}
use Rattle.joined_reach.proofs.Rows.{entering_start, entering_member, entering_falls, entering_more, entering_end}
use Rattle.joined_reach.proofs.enter.Goals as goal

pub input_moves-moves-requires : goal.input_moves-moves-requires
input_moves-moves-requires c = (c.requires.0, c.requires.1, c.requires.3)

pub loop-rest-init : goal.loop-rest-init
loop-rest-init c = entering_start _ _ _ _ (omega (arith, c.input_moves-moves.type_inv))

pub grow-left-requires : goal.grow-left-requires
grow-left-requires c =
    let below : c.lowest.result < 32 = let m = entering_member _ _ _ _ c.loop-rest.rest _ _ c.loop-rest.invariant c.loop-rest-test.true _ c.lowest.ensures in
    omega (arith, move_below c.args.g _ _ c.input_moves-moves.ensures _ m, c.requires.0.inputs) in
    (below, omega (arith, c.loop-rest.invariant.kept.long))

pub without_lowest-rest-requires : goal.without_lowest-rest-requires
without_lowest-rest-requires c = c.loop-rest-test.true

pub loop-rest-smaller : goal.loop-rest-smaller
loop-rest-smaller c =
    entering_falls _ _ _ _ c.loop-rest.rest _ _ c.loop-rest.invariant c.loop-rest-test.true _ c.lowest.ensures _ c.without_lowest-rest.ensures

pub loop-rest-preserved : goal.loop-rest-preserved
loop-rest-preserved c =
    let below : c.lowest.result < 32 = let m = entering_member _ _ _ _ c.loop-rest.rest _ _ c.loop-rest.invariant c.loop-rest-test.true _ c.lowest.ensures in
    omega (arith, move_below c.args.g _ _ c.input_moves-moves.ensures _ m, c.requires.0.inputs) in
    entering_more _ _ _ _ c.loop-rest.rest _ _ c.loop-rest.invariant c.loop-rest-test.true _ c.lowest.ensures _ c.without_lowest-rest.ensures
    (below) (omega (arith, c.without_lowest-rest.type_inv)) _ _ c.grow-left.ensures

pub shape_of-s : goal.shape_of-s
shape_of-s c = c.loop-rest.invariant.kept.long

pub returns : goal.returns
returns c = entering_end _ _ _ _ c.loop-rest.rest _ _ c.loop-rest.invariant c.loop-rest-test.false _ _ c.input_moves-moves.ensures
