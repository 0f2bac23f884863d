-- `grow_rows`.
use native.Mathlib.Omega.{arith}
use mathlib.Core.Path.{◌∙◌}
use Rattle.sets.proofs.Rows.{count_same}
use Rattle.barred_grow.proofs.Rows.{lowest_low, rest_low, grown_then}
use Rattle.barred_grow.proofs.grow_rows.Goals as goal

pub grow_row-more-requires : goal.grow_row-more-requires
grow_row-more-requires c =
    let w = c.in-Some.ensures.steps in
    let low = lowest_low _ _ c.requires.0 c.loop-t.invariant.2 w.some _ w.lowest in
    (c.requires.0, low, omega (arith, c.requires.1, count_same c.loop-t.s c.args.s.now c.loop-t.invariant.0), c.requires.2)

pub loop-t-preserved : goal.loop-t-preserved
loop-t-preserved c =
    let w = c.in-Some.ensures.steps in (
      c.grow_row-more.auto.s ∙ c.loop-t.invariant.0,
      λ outs v. grown_then _ _ _ _ c.requires.0 (c.loop-t.invariant.1 outs v) (c.grow_row-more.ensures outs v),
      rest_low _ _ c.requires.0 c.loop-t.invariant.2 w.some _ w.lowest _ w.others,
    )

pub returns : goal.returns
returns c =
    c.loop-t.invariant.1
