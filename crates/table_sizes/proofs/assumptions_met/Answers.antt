-- `assumptions_met` goes through the requirements.
use mathlib.Core.Path.{◌∙◌}
use native.Mathlib.Omega.{arith}
use Rattle.bits.proofs.Collect.{collect_none}
use Rattle.theory.specs.Choice.{assumptions}
use Rattle.table_sizes.specs.Below.{assumption_side, all_sets}
use Rattle.table_sizes.proofs.Below.{assumptions_listed, few, assumed_few}
use Rattle.table_sizes.proofs.Numbered.{upto_none, upto_next, range_short, met_further, met_all}
use Rattle.table_sizes.proofs.assumptions_met.Goals as goal

pub loop-r-init : goal.loop-r-init
loop-r-init c = (omega arith, few _ c.requires.0, upto_none assumption_side assumptions_listed _, c.empty-q.ensures ∙ collect_none _)

pub assumptions_of-s-requires : goal.assumptions_of-s-requires
assumptions_of-s-requires c =
    let p = c.requires in
    (c.loop-r.invariant.1, c.loop-r-test.true, p.1, p.2)

pub add_met-q-requires : goal.add_met-q-requires
unfolding assumption_side
add_met-q-requires c =
    let b = c.loop-r-test.true in
    let W = c.assumptions_of-s.ensures in
    range_short assumption_side assumptions_listed _ c.loop-r.r _ _ b c.loop-r.invariant.1 (assumed_few _ c.requires.0 c.loop-r.r b)
    c.loop-r.invariant.2 W

pub overflow_add-n : goal.overflow_add-n
unfolding assumption_side
overflow_add-n c =
    let b = c.loop-r-test.true in
    let W = c.assumptions_of-s.ensures in
    omega (
      arith,
      c.loop-r.invariant.1,
      (upto_next assumption_side assumptions_listed _ c.loop-r.r _ _ b c.loop-r.invariant.1
          (assumed_few _ c.requires.0 c.loop-r.r b) c.loop-r.invariant.2 W).few,
    )

pub loop-r-preserved : goal.loop-r-preserved
unfolding assumption_side
loop-r-preserved c =
    let b = c.loop-r-test.true in
    let W = c.assumptions_of-s.ensures in
    let f = assumed_few _ c.requires.0 c.loop-r.r b in (
      omega arith,
      c.loop-r.invariant.1,
      upto_next assumption_side assumptions_listed _ c.loop-r.r _ _ b c.loop-r.invariant.1 f c.loop-r.invariant.2 W,
      met_further assumption_side assumptions_listed _ c.loop-r.r _ _ b c.loop-r.invariant.1 f c.loop-r.invariant.2 W _ _ _
          c.loop-r.invariant.3 c.add_met-q.ensures,
    )

pub returns : goal.returns
unfolding assumption_side all_sets assumptions
returns c =
    met_all assumption_side assumptions_listed _ _ c.loop-r.r _ _ c.loop-r.invariant.0 c.loop-r-test.false c.loop-r.invariant.2 c.loop-r.invariant.3
