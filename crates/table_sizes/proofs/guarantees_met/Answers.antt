-- `guarantees_met` goes through the requirements.
use mathlib.Core.Path.{◌∙◌}
use native.Mathlib.Omega.{arith}
use Rattle.bits.proofs.Collect.{collect_none}
use Rattle.theory.specs.Choice.{guarantees}
use Rattle.table_sizes.specs.Below.{guarantee_side, all_sets}
use Rattle.table_sizes.proofs.Below.{guarantees_listed, few, guaranteed_few}
use Rattle.table_sizes.proofs.Numbered.{upto_none, upto_next, range_short, met_further, met_all}
use Rattle.table_sizes.proofs.guarantees_met.Goals as goal

pub loop-r-init : goal.loop-r-init
loop-r-init c = (omega arith, few _ c.requires.0, upto_none guarantee_side guarantees_listed _, c.empty-q.ensures ∙ collect_none _)

pub guarantees_of-s-requires : goal.guarantees_of-s-requires
guarantees_of-s-requires c =
    let p = c.requires in
    (c.loop-r.invariant.1, c.loop-r-test.true, p.1, p.2)

pub add_met-q-requires : goal.add_met-q-requires
unfolding guarantee_side
add_met-q-requires c =
    let b = c.loop-r-test.true in
    let W = c.guarantees_of-s.ensures in
    range_short guarantee_side guarantees_listed _ c.loop-r.r _ _ b c.loop-r.invariant.1 (guaranteed_few _ c.requires.0 c.loop-r.r b)
    c.loop-r.invariant.2 W

pub overflow_add-n : goal.overflow_add-n
unfolding guarantee_side
overflow_add-n c =
    let b = c.loop-r-test.true in
    let W = c.guarantees_of-s.ensures in
    omega (
      arith,
      c.loop-r.invariant.1,
      (upto_next guarantee_side guarantees_listed _ c.loop-r.r _ _ b c.loop-r.invariant.1
          (guaranteed_few _ c.requires.0 c.loop-r.r b) c.loop-r.invariant.2 W).few,
    )

pub loop-r-preserved : goal.loop-r-preserved
unfolding guarantee_side
loop-r-preserved c =
    let b = c.loop-r-test.true in
    let W = c.guarantees_of-s.ensures in
    let f = guaranteed_few _ c.requires.0 c.loop-r.r b in (
      omega arith,
      c.loop-r.invariant.1,
      upto_next guarantee_side guarantees_listed _ c.loop-r.r _ _ b c.loop-r.invariant.1 f c.loop-r.invariant.2 W,
      met_further guarantee_side guarantees_listed _ c.loop-r.r _ _ b c.loop-r.invariant.1 f c.loop-r.invariant.2 W _ _ _
          c.loop-r.invariant.3 c.add_met-q.ensures,
    )

pub returns : goal.returns
unfolding guarantee_side all_sets guarantees
returns c =
    met_all guarantee_side guarantees_listed _ _ c.loop-r.r _ _ c.loop-r.invariant.0 c.loop-r-test.false c.loop-r.invariant.2 c.loop-r.invariant.3
