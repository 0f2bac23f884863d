-- `empty`.
use mathlib.Core.Path.{◌≡◌, refl, ◌∙◌}
use native.Mathlib.Omega.{arith}
use Rattle.sets.specs.Words.{sets_in}
use Rattle.sets.proofs.Rows.{count_same, sets_long}
use Rattle.barred_rows.proofs.Rows.{emptied_none, emptied_next}
use Rattle.barred_rows.proofs.empty.Goals as goal

pub loop-i-init : goal.loop-i-init
loop-i-init c = (omega arith, refl, emptied_none _ _)

pub put-requires : goal.put-requires
put-requires c =
    omega (arith, c.requires.0, c.requires.1, count_same c.loop-i.s c.args.s.now c.loop-i.invariant.1)

pub loop-i-preserved : goal.loop-i-preserved
loop-i-preserved c = (
  omega arith,
  c.put.auto.l ∙ c.loop-i.invariant.1,
  rw c.put.ensures (emptied_next _ _ c.loop-i.i (sets_in c.loop-i.s) _ c.loop-i.invariant.2
      (omega (arith, c.requires.0, c.requires.1, count_same c.loop-i.s c.args.s.now c.loop-i.invariant.1, sets_long c.loop-i.s)) c.empty-none.ensures.1),
)

pub shape_of-s : goal.shape_of-s
shape_of-s c = c.loop-i.invariant.1

pub returns : goal.returns
returns c =
    let e : c.loop-i.i ≡ c.args.n = omega arith in
    rw e at c.loop-i.invariant.2
