-- `sweep` goes through the rows in rising order, each from the rows as they are by then.
use Prim.Native.Nat.{◌<◌}
use mathlib.Core.Bool.{not}
use mathlib.Core.Path.{◌≡◌, refl, ◌∙◌, ap}
use lib.ListN.{length}
use Rattle.sets.specs.Words.{sets_in}
use Rattle.sets.proofs.Rows.{count_same, sets_long, differ, alike}
use Rattle.graph_closure.proofs.Sweeps.{fixed_none, fixed_put, swept_start, swept_grew, swept_kept}
use native.Mathlib.Omega.{arith}
use Rattle.graph_closure.proofs.sweep.Goals as goal
use Rattle.graph_closure.proofs.sweep.Goals.{then-not-same, else-not-same}

pub loop-s-init : goal.loop-s-init
loop-s-init c = (omega arith, refl, swept_start _ _, fixed_none _ _ _ c.empty-fixed.ensures.1)

pub row-old-requires : goal.row-old-requires
row-old-requires c =
    omega (arith, count_same c.loop-s.rows c.args.rows.now c.loop-s.invariant.1)

pub renewed-new-requires : goal.renewed-new-requires
renewed-new-requires c =
    let same = count_same c.loop-s.rows c.args.rows.now c.loop-s.invariant.1 in
    (omega arith, omega (arith, same), c.loop-s.invariant.3)

pub put-requires : goal.put-requires
put-requires c =
    omega (arith, count_same c.loop-s.rows c.args.rows.now c.loop-s.invariant.1)

pub loop-s-preserved : goal.loop-s-preserved
loop-s-preserved c =
    let a = c.args in
    let made = c.renewed-new.ensures in
    let tested = c.same.ensures in
    let known = c.latest-fixed.ensures _ _ made c.loop-s.invariant.3 in
    let many = count_same c.loop-s.rows a.rows.now c.loop-s.invariant.1 in
    let long : c.loop-s.s < length (sets_in c.loop-s.rows) = omega (arith, sets_long c.loop-s.rows, many) in
    elim c.if-not-same.branch [
      | then-not-same w ↦ (
        omega arith,
        ap length w.rows-is ∙ w.put.auto.l ∙ c.loop-s.invariant.1,
        rw (w.rows-is, w.put.ensures, w.added-is) (swept_grew _ _ c.loop-s.s c.loop-s.invariant.2 c.row-old.ensures made (differ _ _ tested (ap not w.if-not-same.true))),
        rw (w.rows-is, w.put.ensures) (fixed_put _ _ _ c.loop-s.s _ _ (omega arith) long c.row-old.ensures made known),
      )
      | else-not-same w ↦ (
        omega arith,
        ap length w.rows-is ∙ c.loop-s.invariant.1,
        rw (w.rows-is, w.added-is) (swept_kept _ _ c.loop-s.s c.loop-s.invariant.2 c.row-old.ensures made (alike _ _ tested (ap not w.if-not-same.false))),
        rw w.rows-is known,
      )
    ]

pub shape_of-rows : goal.shape_of-rows
shape_of-rows c = c.loop-s.invariant.1

pub returns : goal.returns
returns c =
    let e : c.loop-s.s ≡ c.args.n = omega arith in
    record { sweep = rw e at c.loop-s.invariant.2; count = refl }
