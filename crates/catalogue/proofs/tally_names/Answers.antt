-- `tally_names` meets its contract.
use native.Mathlib.Omega.{arith}
use Rattle.catalogue.proofs.Names.{name_within, under_start, under_roomy, under_step, under_end}
use Rattle.catalogue.proofs.tally_names.Goals as goal

pub loop-at-init : goal.loop-at-init
loop-at-init c = (omega arith, omega arith, under_start _ c.empty-t.ensures, c.requires)

pub slice_bounds-judge_name-count : goal.slice_bounds-judge_name-count
slice_bounds-judge_name-count c =
    omega (arith, name_within c.args.list.now c.loop-at.at c.loop-at.invariant.0 c.name_end-end.ensures)

pub slice_bounds-judge_name-start : goal.slice_bounds-judge_name-start
slice_bounds-judge_name-start c =
    omega (arith, name_within c.args.list.now c.loop-at.at c.loop-at.invariant.0 c.name_end-end.ensures)

pub slice_bounds-judge_name-end : goal.slice_bounds-judge_name-end
slice_bounds-judge_name-end c =
    omega (arith, name_within c.args.list.now c.loop-at.at c.loop-at.invariant.0 c.name_end-end.ensures)

pub add-t-requires : goal.add-t-requires
add-t-requires c =
    (under_roomy c.loop-at.invariant.2 c.loop-at.invariant.3, c.judge_name-o.ensures.1)

pub loop-at-smaller : goal.loop-at-smaller
loop-at-smaller c = omega (arith, c.next_name-at.ensures.on, c.next_name-at.ensures.within)

pub loop-at-preserved : goal.loop-at-preserved
loop-at-preserved c =
    let n = c.next_name-at.ensures in (
      omega arith,
      omega arith,
      under_step c.loop-at.invariant.2 c.name_end-end.ensures n
          c.judge_name-o.ensures c.add-t.ensures,
      c.loop-at.invariant.3,
    )

pub returns : goal.returns
returns c = under_end c.loop-at.invariant.2 c.loop-at-test.false
