-- `output_rows` goes through the counters.
use Prim.Native.Nat.{◌≤◌, ◌<◌, ◌+◌, ◌*◌}
use mathlib.Core.Path.{refl}
use native.Mathlib.Omega.{arith}
use Rattle.kit_rows.proofs.Search.{lent_none, lent_said}
use Rattle.kit_rows.proofs.Blocks.{rounds_none, rounds_next, rounds_end}
use Rattle.kit_rows.proofs.Kits.{counters_small, first_small, rows_below, count_fits_lem, outputs_one}
use Rattle.kit_rows.proofs.output_rows.Goals as goal

pub loop-c-init : goal.loop-c-init
loop-c-init c = (omega arith, rounds_none _ _ _ _ _ _, lent_none _ _)

pub overflow_mul-first : goal.overflow_mul-first
overflow_mul-first c =
    let small : c.args.o * c.args.counters + c.loop-c.c < 4096 = counters_small _ c.args.controller.now _ _ c.requires.0 _ c.requires.1 _ c.loop-c-test.true in
    omega (arith, small)

pub overflow_add-first : goal.overflow_add-first
overflow_add-first c =
    let small : c.args.o * c.args.counters + c.loop-c.c < 4096 = counters_small _ c.args.controller.now _ _ c.requires.0 _ c.requires.1 _ c.loop-c-test.true in
    omega (arith, small)

pub overflow_mul-first-in-loop-c : goal.overflow_mul-first-in-loop-c
overflow_mul-first-in-loop-c c =
    let first : (c.args.o * c.args.counters + c.loop-c.c) * c.args.k.old.modes + c.args.k.old.modes ≤ 524288 = first_small _ c.args.controller.now _ _ c.requires.0 _ c.requires.1 _ c.loop-c-test.true in
    omega (arith, first)

pub overflow_add-old : goal.overflow_add-old
overflow_add-old c =
    let first : (c.args.o * c.args.counters + c.loop-c.c) * c.args.k.old.modes + c.args.k.old.modes ≤ 524288 = first_small _ c.args.controller.now _ _ c.requires.0 _ c.requires.1 _ c.loop-c-test.true in
    omega (arith, first)

pub translate-requires : goal.translate-requires
translate-requires c = (
  c.requires.0.new.commands,
  omega (arith, c.requires.1, c.requires.0.new.modes),
  rows_below _ c.args.controller.now _ _ c.requires.0 _ c.requires.1 _ c.loop-c-test.true,
  omega (arith, c.requires.2, c.loop-c.invariant.2.long),
)

pub counter_rows-requires : goal.counter_rows-requires
counter_rows-requires c =
    count_fits_lem _ c.args.controller.now _ _ c.requires.0 _ c.requires.1 _ _ c.loop-c-test.true c.loop-c.invariant.1.long
    (omega (arith, c.requires.2, c.loop-c.invariant.2.long, c.translate.ensures.long)) c.translate.ensures

pub loop-c-preserved : goal.loop-c-preserved
loop-c-preserved c = (
  omega (arith, c.loop-c-test.true),
  rounds_next _ _ _ _ _ c.loop-c.c c.requires.0.named c.loop-c-test.true c.loop-c.invariant.1 c.translate.ensures
      c.counter_rows.ensures refl,
  lent_said c.loop-c.invariant.2 c.translate.ensures,
)

pub shape_of-kept : goal.shape_of-kept
shape_of-kept c = c.loop-c.invariant.2.long

pub shape_of-room : goal.shape_of-room
shape_of-room c = c.loop-c.invariant.1.long

pub returns : goal.returns
returns c = (
  outputs_one _ c.args.controller.now _ _ c.requires.0 _ c.requires.1
      (rounds_end _ _ _ _ _ c.loop-c.c c.loop-c.invariant.0 c.loop-c-test.false c.loop-c.invariant.1),
  c.loop-c.invariant.2,
)
