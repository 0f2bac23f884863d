-- `parts_fit` goes through the parts of the inputs.
use Prim.Native.Nat.{◌*◌}
use mathlib.Core.Path.{refl, ap}
use mathlib.Core.Logic.{⊎_elim, inl, inr}
use native.Mathlib.Omega.{arith}
use Rattle.finite.proofs.Loops.{failed, passed}
use Rattle.game.proofs.Laws.{accepted_fits}
use Rattle.table_sizes.proofs.Lengths.{controller_rows}
use Rattle.compact_checks.proofs.Game.{firsts_below, rows_long, parts_none, parts_next, parts_stop, parts_end}
use Rattle.compact_checks.proofs.parts_fit.Goals as goal

pub controller_counters-requires : goal.controller_counters-requires
controller_counters-requires c = c.requires.0

pub overflow_mul-rows : goal.overflow_mul-rows
overflow_mul-rows c =
    omega (arith, controller_rows _ c.requires.0 _ c.controller_counters.ensures)

pub loop-part-init : goal.loop-part-init
loop-part-init c =
    let q = ap (◌*◌ _) c.controller_counters.ensures in
    (refl, q, refl, parts_none _ _ q)

pub overflow_sub-n : goal.overflow_sub-n
overflow_sub-n c = omega (arith, c.loop-part-test.true)

pub name_firsts-requires : goal.name_firsts-requires
name_firsts-requires c =
    let e = c.part_length-count.ensures in
    let i = c.loop-part.invariant in
    (c.requires.0, c.requires.1, e.0, omega (arith, e.1, c.loop-part-test.true, i.0), i.2)

pub part_fits-requires : goal.part_fits-requires
part_fits-requires c =
    let i = c.loop-part.invariant in
    let b = c.loop-part-test.true in
    let e = c.part_length-count.ensures in (
      e.0,
      omega (arith, e.1, b),
      omega (arith, rows_long _ c.args.table.now i.1 c.requires.2, i.0),
      λ k h. omega (arith, i.0, firsts_below _ c.loop-part.part _ (omega (arith, e.1, b, i.0)) c.name_firsts.ensures k h),
    )

pub returns-then-not-part_fits : goal.returns-then-not-part_fits
returns-then-not-part_fits c =
    let i = c.loop-part.invariant in
    let b = c.loop-part-test.true in
    let e = c.part_length-count.ensures in
    let p = c.part_fits.ensures in
    parts_stop _ _ i.1 c.loop-part.part _ i.0 (omega (arith, e.1, b, i.0)) c.name_firsts.ensures c.requires.2
    (failed p c.if-not-part_fits.true-raw)

pub overflow_add-part : goal.overflow_add-part
overflow_add-part c =
    let i = c.loop-part.invariant in
    let b = c.loop-part-test.true in
    let e = c.part_length-count.ensures in
    omega (arith, b, i.0, (accepted_fits _ c.requires.0).input.most)

pub loop-part-smaller : goal.loop-part-smaller
loop-part-smaller c =
    let i = c.loop-part.invariant in
    let b = c.loop-part-test.true in
    let e = c.part_length-count.ensures in
    omega (arith, b)

pub loop-part-preserved : goal.loop-part-preserved
loop-part-preserved c =
    let i = c.loop-part.invariant in
    let b = c.loop-part-test.true in
    let e = c.part_length-count.ensures in
    let p = c.part_fits.ensures in (
      i.0,
      i.1,
      c.name_firsts.ensures.long,
      parts_next _ _ i.1 c.loop-part.part _ i.0 (omega (arith, e.1, b, i.0)) c.name_firsts.ensures
          (⊎_elim (λ q. inl q) (λ q. inr (omega (arith, q, b, i.0))) e.2)
          (passed p c.if-not-part_fits.false-raw) i.3,
    )

pub returns : goal.returns
returns c =
    let i = c.loop-part.invariant in
    parts_end _ _ i.1 c.loop-part.part c.requires.2 (omega (arith, c.loop-part-test.false, i.0)) i.3
