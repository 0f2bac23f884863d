-- `name_end` meets its contract.
use native.Mathlib.Omega.{arith}
use mathlib.Core.Path.{◌≡◌, refl, sym, ◌∙◌}
use lib.ListN.{length}
use Rattle.catalogue_names.proofs.Splitting.{front_ends, front_goes, front_last}
use Rattle.catalogue_names.proofs.name_end.Goals as goal

pub loop-i-init : goal.loop-i-init
loop-i-init c = (c.requires, refl)

pub loop-i-preserved : goal.loop-i-preserved
loop-i-preserved c = (omega arith, c.loop-i.invariant.1 ∙ front_goes _ _ c.loop-i-test.true c.if-list-i-eq10.false)

pub returns : goal.returns
returns c =
    let end : c.loop-i.i ≡ length c.args.list.now = omega arith in
    sym end ∙ sym (c.loop-i.invariant.1 ∙ front_last _ _ c.loop-i-test.false)

pub returns-then-list-i-eq10 : goal.returns-then-list-i-eq10
returns-then-list-i-eq10 c = sym (c.loop-i.invariant.1 ∙ front_ends _ _ c.loop-i-test.true c.if-list-i-eq10.true)
