-- `guarantee_count` adds up the lengths, one requirement after the other.
use native.Mathlib.Omega.{arith}
use Rattle.theory.specs.Choice.{guarantees}
use Rattle.table_sizes.specs.Below.{guarantee_side, all_sets}
use Rattle.table_sizes.proofs.Below.{guarantees_listed, below_none, below_more, below_all, few, guaranteed_few}
use Rattle.table_sizes.proofs.guarantee_count.Goals as goal

pub loop-r-init : goal.loop-r-init
loop-r-init c = (omega arith, few _ c.requires, omega arith, below_none guarantee_side guarantees_listed _)

pub overflow_add-n : goal.overflow_add-n
overflow_add-n c =
    omega (arith, guaranteed_few _ c.requires c.loop-r.r c.loop-r-test.true)

pub loop-r-preserved : goal.loop-r-preserved
unfolding guarantee_side
loop-r-preserved c = (
  omega arith,
  c.loop-r.invariant.1,
  omega (arith, guaranteed_few _ c.requires c.loop-r.r c.loop-r-test.true),
  below_more guarantee_side guarantees_listed _ c.loop-r.r c.loop-r.n c.loop-r.invariant.3,
)

pub returns : goal.returns
unfolding guarantee_side all_sets guarantees
returns c = below_all guarantee_side guarantees_listed _ _ _ c.loop-r.invariant.0 c.loop-r-test.false c.loop-r.invariant.3
