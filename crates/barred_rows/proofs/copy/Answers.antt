-- `copy`.
use mathlib.Core.Path.{◌≡◌, refl, ◌∙◌}
use native.Mathlib.Omega.{arith}
use Rattle.sets.specs.Words.{sets_in}
use Rattle.sets.proofs.Rows.{count_same, sets_long}
use Rattle.barred_rows.proofs.Rows.{copied_none, copied_next}
use Rattle.barred_rows.proofs.copy.Goals as goal

pub loop-i-init : goal.loop-i-init
loop-i-init c = (omega arith, refl, copied_none 0 _ _ _)

pub row-requires : goal.row-requires
row-requires c =
    omega (arith, c.requires.0, c.requires.1, count_same c.loop-i.s c.args.s.now c.loop-i.invariant.1)

pub put-requires : goal.put-requires
put-requires c =
    omega (arith, c.requires.0, c.requires.2, count_same c.loop-i.s c.args.s.now c.loop-i.invariant.1)

pub loop-i-preserved : goal.loop-i-preserved
loop-i-preserved c = (
  omega arith,
  c.put.auto.l ∙ c.loop-i.invariant.1,
  rw c.put.ensures (copied_next c.args.n _ _ _ c.loop-i.i (sets_in c.loop-i.s) _ c.requires.3 (omega arith) c.loop-i.invariant.2
      (omega (arith, c.requires.0, c.requires.2, count_same c.loop-i.s c.args.s.now c.loop-i.invariant.1, sets_long c.loop-i.s)) c.row.ensures),
)

pub shape_of-s : goal.shape_of-s
shape_of-s c = c.loop-i.invariant.1

pub returns : goal.returns
returns c =
    let e : c.loop-i.i ≡ c.args.n = omega arith in
    rw e at c.loop-i.invariant.2
