-- `assumption_count` adds up the lengths, one requirement after the other.
use native.Mathlib.Omega.{arith}
use Rattle.theory.specs.Choice.{assumptions}
use Rattle.table_sizes.specs.Below.{assumption_side, all_sets}
use Rattle.table_sizes.proofs.Below.{assumptions_listed, below_none, below_more, below_all, few, assumed_few}
use Rattle.table_sizes.proofs.assumption_count.Goals as goal

pub loop-r-init : goal.loop-r-init
loop-r-init c = (omega arith, few _ c.requires, omega arith, below_none assumption_side assumptions_listed _)

pub overflow_add-n : goal.overflow_add-n
overflow_add-n c =
    omega (arith, assumed_few _ c.requires c.loop-r.r c.loop-r-test.true)

pub loop-r-preserved : goal.loop-r-preserved
unfolding assumption_side
loop-r-preserved c = (
  omega arith,
  c.loop-r.invariant.1,
  omega (arith, assumed_few _ c.requires c.loop-r.r c.loop-r-test.true),
  below_more assumption_side assumptions_listed _ c.loop-r.r c.loop-r.n c.loop-r.invariant.3,
)

pub returns : goal.returns
unfolding assumption_side all_sets assumptions
returns c = below_all assumption_side assumptions_listed _ _ _ c.loop-r.invariant.0 c.loop-r-test.false c.loop-r.invariant.3
