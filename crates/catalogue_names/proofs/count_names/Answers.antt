-- `count_names` meets its contract.
use native.Mathlib.Omega.{arith}
use Rattle.catalogue_names.proofs.Splitting.{names_more, names_end}
use Rattle.catalogue_names.proofs.count_names.Goals as goal

pub loop-at-init : goal.loop-at-init
loop-at-init c = (omega arith, omega arith, omega arith)

pub loop-at-smaller : goal.loop-at-smaller
loop-at-smaller c = omega (arith, c.next_name-at.ensures.on, c.next_name-at.ensures.within)

pub loop-at-preserved : goal.loop-at-preserved
loop-at-preserved c =
    let n = c.next_name-at.ensures in
    (omega arith, omega arith, omega (arith, names_more n))

pub returns : goal.returns
returns c = omega (arith, names_end c.args.list.now c.loop-at.at c.loop-at-test.false)
