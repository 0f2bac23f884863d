-- `leading` walks the inputs; one that is still left is the smallest of its component.
use mathlib.Core.Path.{◌∙◌}
use native.Mathlib.Omega.{arith}
use Rattle.bits.proofs.Collect.{collect_none, collect_next, collect_end}
use Rattle.game.proofs.Laws.{accepted_fits}
use Rattle.graph_ranks.proofs.Walk.{moves_narrow, input_small, left_all, left_inputs, leads_now, left_reduced}
use Rattle.graph_ranks.proofs.leading.Goals as goal

pub crossed-places-requires : goal.crossed-places-requires
crossed-places-requires c = (accepted_fits _ c.requires).input.most

pub below-left-requires : goal.below-left-requires
below-left-requires c =
    (accepted_fits _ c.requires).input.most

pub loop-j-init : goal.loop-j-init
loop-j-init c =
    (omega arith, c.empty-leaders.ensures.1 ∙ collect_none _, left_all _ c.requires _ c.below-left.ensures)

pub member-requires : goal.member-requires
member-requires c =
    input_small _ c.requires _ c.loop-j-test.true

pub insert_if-leaders-requires : goal.insert_if-leaders-requires
insert_if-leaders-requires c =
    input_small _ c.requires _ c.loop-j-test.true

pub reduced-left-requires : goal.reduced-left-requires
reduced-left-requires c =
    let j = c.loop-j.j in
    let d = c.loop-j.invariant.2 in (
      moves_narrow _ c.requires,
      (accepted_fits _ c.requires).input.most,
      left_inputs _ c.requires j _ d,
      input_small _ c.requires _ c.loop-j-test.true,
      c.crossed-places.ensures,
    )

pub loop-j-smaller : goal.loop-j-smaller
loop-j-smaller c =
    omega (arith, c.loop-j-test.true)

pub loop-j-preserved : goal.loop-j-preserved
loop-j-preserved c =
    let d = c.loop-j.invariant.2 in
    let j = c.loop-j.j in
    let k = c.loop-j-test.true in (
      omega (arith, k),
      collect_next _ j _ _ _ c.loop-j.invariant.1 (c.member.ensures ∙ leads_now _ c.requires j _ d k) c.insert_if-leaders.ensures,
      left_reduced _ c.requires j _ _ d k c.reduced-left.ensures,
    )

pub returns : goal.returns
returns c =
    collect_end _ c.loop-j.j _ _ c.loop-j.invariant.0 (omega (arith, c.loop-j-test.false)) c.loop-j.invariant.1
