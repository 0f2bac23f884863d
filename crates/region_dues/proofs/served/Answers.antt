-- `served`. Invariant: the outputs outside `rest` are in the sets of the requirements that they serve.
use Prim.Native.Nat.{◌<◌}
use mathlib.Core.Path.{◌∙◌}
use native.Mathlib.Omega.{arith}
use Rattle.sets.proofs.Rows.{is_some, is_none}
use Rattle.scratch.proofs.Areas.{area_closes, out_transitive}
use Rattle.region_dues.proofs.Halves.{half_room, few_sets_lem, marked_both}
use Rattle.region_dues.proofs.Meaning.{fits_few, sorted_start, sorted_below, sorted_falls, sorted_next, sorted_end}
use Rattle.region_dues.proofs.served.Goals as goal

pub first_four-few-requires : goal.first_four-few-requires
first_four-few-requires g c =
    let known = rw (← c.requires.0) at c.requires.1 in
    known.0.few

pub overflow_sub-more : goal.overflow_sub-more
overflow_sub-more g c =
    c.first_four-few.ensures.within

pub below-rest-requires : goal.below-rest-requires
below-rest-requires g c =
    let known = rw (← c.requires.0) at c.requires.1 in
    known.0.output.most

pub loop-z-init : goal.loop-z-init
loop-z-init g c =
    let known = rw (← c.requires.0) at c.requires.1 in
    sorted_start _ known.0 _ c.below-rest.ensures

pub out_row-requires : goal.out_row-requires
out_row-requires g c =
    let known = rw (← c.requires.0) at c.requires.1 in
    let below : c.lowest.result < c.args.z.outputs = let p = known in
    let some = is_some _ c.is_empty.ensures c.loop-z-test.true-raw in
    sorted_below _ p.0 _ (area_closes p.1) _ _ _ c.loop-z.invariant some _ c.lowest.ensures in
    omega (arith, below, known.0.output.most)

pub out_component-c-requires : goal.out_component-c-requires
out_component-c-requires g c =
    let known = rw (← c.requires.0) at c.requires.1 in
    let below : c.lowest.result < c.args.z.outputs = let p = known in
    let some = is_some _ c.is_empty.ensures c.loop-z-test.true-raw in
    sorted_below _ p.0 _ (area_closes p.1) _ _ _ c.loop-z.invariant some _ c.lowest.ensures in
    let p = known in
    (p.0.input.most, p.0.output.most, below, p.1.long, out_transitive p.1)

pub mark-requires : goal.mark-requires
mark-requires g c =
    let known = rw (← c.requires.0) at c.requires.1 in
    let p = known in
    let H = c.first_four-few.ensures in (
      omega (arith, H.most),
      few_sets_lem _ _ (fits_few _ p.0),
      half_room _ _ c.loop-z.invariant.whole.first H.most,
    )

pub mark-requires-in-loop-z : goal.mark-requires-in-loop-z
mark-requires-in-loop-z g c =
    let known = rw (← c.requires.0) at c.requires.1 in
    let p = known in
    let H = c.first_four-few.ensures in (
      omega (arith, H.others),
      few_sets_lem _ _ (fits_few _ p.0),
      half_room _ _ c.loop-z.invariant.whole.second (omega (arith, H.others)),
    )

pub loop-z-smaller : goal.loop-z-smaller
loop-z-smaller g c =
    let known = rw (← c.requires.0) at c.requires.1 in
    let p = known in
    let some = is_some _ c.is_empty.ensures c.loop-z-test.true-raw in
    sorted_falls _ p.0 _ (area_closes p.1) _ _ _ c.loop-z.invariant some _ c.lowest.ensures _ c.out_component-c.ensures _ c.difference-rest.ensures

pub loop-z-preserved : goal.loop-z-preserved
loop-z-preserved g c =
    let known = rw (← c.requires.0) at c.requires.1 in
    let M = c.mark-in-loop-z.ensures in
    let p = known in
    let some = is_some _ c.is_empty.ensures c.loop-z-test.true-raw in
    let S = c.loop-z.invariant in
    sorted_next _ p.0 _ (area_closes p.1) _ _ _ S some _ c.lowest.ensures _ c.out_component-c.ensures _ c.difference-rest.ensures _ _
    (record { first = c.mark.ensures.1 ∙ S.whole.first; second = M.1 ∙ S.whole.second })
    (marked_both _ _ (fits_few _ p.0) c.first_four-few.ensures _ _ _ _ _ c.mark.ensures.0 M.0)

pub returns : goal.returns
returns g c =
    let known = rw (← c.requires.0) at c.requires.1 in
    rw (← c.requires.0) (
    sorted_end _ known.0 _ _ _ c.loop-z.invariant (is_none _ c.is_empty.ensures c.loop-z-test.false-raw))
