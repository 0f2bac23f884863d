-- `mark`. Invariant: the sets of the first q requirements are done.
use Prim.Native.Nat.{◌<◌}
use mathlib.Core.Path.{refl, ◌∙◌}
use lib.ListN.{length}
use Rattle.sets.specs.Words.{sets_in}
use Rattle.sets.proofs.Rows.{count_same, sets_long}
use Rattle.region_dues.proofs.Steps.{marked_start, marked_next, marked_end}
use native.Mathlib.Omega.{arith}
use Rattle.region_dues.proofs.mark.Goals as goal

pub loop-q-init : goal.loop-q-init
loop-q-init c = (omega arith, marked_start _ _ _ _, refl)

pub row-x-requires : goal.row-x-requires
row-x-requires c =
    omega (arith, c.requires.2, count_same c.loop-q.t c.args.t.now c.loop-q.invariant.2)

pub overflow_add-from : goal.overflow_add-from
overflow_add-from c = omega (arith, c.requires.0)

pub all_guaranteed-requires : goal.all_guaranteed-requires
all_guaranteed-requires c =
    let p = c.requires in
    (omega (arith, p.0), p.1)

pub put-requires : goal.put-requires
put-requires c =
    omega (arith, c.requires.2, count_same c.loop-q.t c.args.t.now c.loop-q.invariant.2)

pub loop-q-preserved : goal.loop-q-preserved
loop-q-preserved c =
    let room : c.loop-q.q < length (sets_in c.args.t.now) = omega (arith, c.requires.2, sets_long c.args.t.now) in (
      omega arith,
      marked_next _ _ _ _ c.loop-q.q _ _ _ _ _ room c.loop-q.invariant.1 c.row-x.ensures c.all_guaranteed.ensures c.union_if-y.ensures
          c.put.ensures,
      c.put.auto.l ∙ c.loop-q.invariant.2,
    )

pub shape_of-t : goal.shape_of-t
shape_of-t c = c.loop-q.invariant.2

pub returns : goal.returns
returns c =
    let l = c.loop-q in
    (marked_end _ _ _ _ l.q _ _ (omega arith) (omega arith) l.invariant.1, l.invariant.2)
