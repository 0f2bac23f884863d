-- `narrow`. Invariant: y has the members of x that the first q requirements admit.
use Rattle.region_dues.proofs.Steps.{narrowed_start, narrowed_next, narrowed_end}
use native.Mathlib.Omega.{arith}
use Rattle.region_dues.proofs.narrow.Goals as goal

pub loop-q-init : goal.loop-q-init
loop-q-init c = (omega arith, narrowed_start _ _ _ _ _)

pub overflow_add-from : goal.overflow_add-from
overflow_add-from c = omega (arith, c.requires.0)

pub all_assumed-due-requires : goal.all_assumed-due-requires
all_assumed-due-requires c =
    let p = c.requires in
    (omega (arith, p.0), p.1)

pub row-requires : goal.row-requires
row-requires c = omega (arith, c.requires.2)

pub loop-q-preserved : goal.loop-q-preserved
loop-q-preserved c = (
  omega arith,
  narrowed_next _ _ _ _ _ c.loop-q.q _ _ _ _ c.all_assumed-due.ensures c.row.ensures c.loop-q.invariant.1 c.admitted-y.ensures,
)

pub returns : goal.returns
returns c = let l = c.loop-q in narrowed_end _ _ _ _ _ l.q _ _ (omega arith) (omega arith) l.invariant.1
