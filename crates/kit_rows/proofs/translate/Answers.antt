-- `translate` goes through the old modes.
use Prim.Native.Nat.{◌+◌, ◌<◌}
use native.Mathlib.Omega.{arith}
use lib.ListN.{length}
use Rattle.kit_rows.proofs.Search.{said_none, said_next, said_end}
use Rattle.kit_rows.proofs.translate.Goals as goal

pub loop-j-init : goal.loop-j-init
loop-j-init c = (omega arith, said_none _ _ _ _)

pub overflow_add-base : goal.overflow_add-base
overflow_add-base c =
    let place : c.args.base + c.loop-j.j < length c.args.controller.now = omega (arith, c.requires.2, c.loop-j-test.true) in
    omega (arith, place)

pub offset_bounds-controller-base : goal.offset_bounds-controller-base
offset_bounds-controller-base c =
    let place : c.args.base + c.loop-j.j < length c.args.controller.now = omega (arith, c.requires.2, c.loop-j-test.true) in
    omega (arith, place)

pub bounds-controller-base : goal.bounds-controller-base
bounds-controller-base c =
    let place : c.args.base + c.loop-j.j < length c.args.controller.now = omega (arith, c.requires.2, c.loop-j-test.true) in
    omega (arith, place)

pub translated-requires : goal.translated-requires
translated-requires c = let p = c.requires in (p.0, p.1)

pub offset_bounds-kept-j : goal.offset_bounds-kept-j
offset_bounds-kept-j c =
    let kept-place : c.loop-j.j < length c.loop-j.kept = omega (arith, c.requires.3, c.loop-j.invariant.1.long, c.loop-j-test.true) in
    omega (arith, kept-place)

pub bounds-kept-j : goal.bounds-kept-j
bounds-kept-j c =
    let kept-place : c.loop-j.j < length c.loop-j.kept = omega (arith, c.requires.3, c.loop-j.invariant.1.long, c.loop-j-test.true) in
    kept-place

pub loop-j-preserved : goal.loop-j-preserved
loop-j-preserved c =
    let kept-place : c.loop-j.j < length c.loop-j.kept = omega (arith, c.requires.3, c.loop-j.invariant.1.long, c.loop-j-test.true) in
    (omega arith, said_next _ _ _ c.loop-j.j (kept-place) c.translated.ensures (omega arith) c.loop-j.invariant.1)

pub shape_of-kept : goal.shape_of-kept
shape_of-kept c = c.loop-j.invariant.1.long

pub returns : goal.returns
returns c = said_end _ _ _ c.loop-j.j _ c.loop-j.invariant.0 c.loop-j-test.false c.loop-j.invariant.1
