-- `keep` meets its contract.
use native.Mathlib.Omega.{arith}
use Rattle.catalogue_names.proofs.Keeping.{keeps_none, keeps_next, keeps_whole, keeps_room}
use Rattle.catalogue_names.proofs.keep.Goals as goal

pub loop-b-init : goal.loop-b-init
loop-b-init c = (omega arith, keeps_none)

pub loop-b-preserved : goal.loop-b-preserved
loop-b-preserved c =
    (omega arith, keeps_next _ _ c.loop-b.invariant.1 c.loop-b-test.true c.keep_byte-kept.ensures)

pub shape_of-list : goal.shape_of-list
shape_of-list c = keeps_room c.loop-b.invariant.1

pub returns : goal.returns
returns c = keeps_whole _ _ c.loop-b.invariant.1 c.loop-b-test.false
