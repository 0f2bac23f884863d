-- `add_met` goes through the sets.
use native.Mathlib.Omega.{arith}
use Rattle.table_goals.proofs.Ranges.{met_none, met_next, met_end}
use Rattle.table_goals.proofs.add_met.Goals as goal

pub loop-j-init : goal.loop-j-init
loop-j-init c = (omega arith, met_none _ _ _)

pub offset_bounds-s-j : goal.offset_bounds-s-j
offset_bounds-s-j c = omega (arith, c.requires.places)

pub bounds-s-j : goal.bounds-s-j
bounds-s-j c = omega (arith, c.requires.places)

pub overflow_add-s : goal.overflow_add-s
overflow_add-s c = omega (arith, c.requires.numbers)

pub insert_if-m-requires : goal.insert_if-m-requires
insert_if-m-requires c = omega (arith, c.requires.numbers)

pub loop-j-preserved : goal.loop-j-preserved
loop-j-preserved c = (
  omega arith,
  met_next _ _ _ c.loop-j.j _ _ _ c.loop-j-test.true c.loop-j.invariant.1 c.meets.ensures
      c.insert_if-m.ensures,
)

pub returns : goal.returns
returns c = met_end _ _ _ c.loop-j.j _ _ (omega arith) (omega arith) c.loop-j.invariant.1
