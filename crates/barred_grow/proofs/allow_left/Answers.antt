-- `allow_left`.
use native.Mathlib.Omega.{arith}
use mathlib.Core.Path.{◌∙◌}
use Rattle.sets.proofs.Rows.{count_same}
use Rattle.barred_grow.proofs.Rows.{lowest_low, rest_low, grown_then}
use Rattle.barred_grow.proofs.allow_left.Goals as goal

pub allow-new-requires : goal.allow-new-requires
allow-new-requires c =
    let w = c.in-Some.ensures.steps in
    let low = lowest_low _ _ c.requires.0 c.loop-j.invariant.2 w.some _ w.lowest in
    (c.requires.0, c.requires.1, low, omega (arith, c.requires.2, count_same c.loop-j.s c.args.s.now c.loop-j.invariant.0))

pub overflow_add-j : goal.overflow_add-j
overflow_add-j c =
    let w = c.in-Some.ensures.steps in
    let low = lowest_low _ _ c.requires.0 c.loop-j.invariant.2 w.some _ w.lowest in
    omega (arith, c.requires.0, low)

pub row-requires : goal.row-requires
row-requires c =
    let w = c.in-Some.ensures.steps in
    let low = lowest_low _ _ c.requires.0 c.loop-j.invariant.2 w.some _ w.lowest in
    omega (arith, c.requires.0, c.requires.2, low, count_same c.allow-new.new.s c.args.s.now (c.allow-new.auto.s ∙ c.loop-j.invariant.0))

pub loop-j-preserved : goal.loop-j-preserved
loop-j-preserved c =
    let w = c.in-Some.ensures.steps in (
      c.allow-new.auto.s ∙ c.loop-j.invariant.0,
      λ ins x. grown_then _ _ _ _ c.requires.0 (c.loop-j.invariant.1 ins x) (c.allow-new.ensures ins x),
      rest_low _ _ c.requires.0 c.loop-j.invariant.2 w.some _ w.lowest _ w.others,
    )

pub returns : goal.returns
returns c =
    c.loop-j.invariant.1
