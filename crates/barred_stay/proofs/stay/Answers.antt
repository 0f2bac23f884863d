-- `stay`.
use mathlib.Core.Path.{refl, ◌∙◌}
use mathlib.Core.Logic.{inl}
use native.Mathlib.Omega.{arith}
use Rattle.sets.proofs.Rows.{count_same, some, none}
use Rattle.barred_stay.proofs.Staying.{staying_start, staying_next, staying_falls, staying_end, copied_within, copied_rows, copied_stayed}
use Rattle.barred_stay.proofs.stay.Goals as goal

pub copy-requires : goal.copy-requires
copy-requires c =
    (c.requires.1, omega (arith, c.requires.0.input.most), omega (arith, c.requires.0.input.most), inl (omega (arith, c.requires.0.input.most)))

pub below-requires : goal.below-requires
below-requires c =
    c.requires.0.input.most

pub loop-g-init : goal.loop-g-init
loop-g-init c =
    (refl, staying_start _ c.requires.0 _ _ _ _ (copied_rows _ c.requires.0 _ _ c.copy.ensures) c.below.ensures)

pub follow-left-requires : goal.follow-left-requires
follow-left-requires c =
    let F = c.requires.0 in
    let T = c.loop-g.invariant.1 in (
      F.input.most,
      F.output.most,
      omega (arith, c.requires.1, count_same c.loop-g.s c.args.s.now (c.loop-g.invariant.0 ∙ c.copy.auto.s)),
      some _ c.is_empty.ensures c.loop-g-test.true,
      T.inputs,
    )

pub loop-g-smaller : goal.loop-g-smaller
loop-g-smaller c =
    let F = c.requires.0 in
    staying_falls _ F _ _ _ _ _ c.loop-g.invariant.1 _ _ c.follow-left.ensures (some _ c.is_empty.ensures c.loop-g-test.true)
    (copied_within _ F _ _ c.copy.ensures c.requires.2)

pub loop-g-preserved : goal.loop-g-preserved
loop-g-preserved c = (
  c.follow-left.auto.s ∙ c.loop-g.invariant.0,
  staying_next _ c.requires.0 _ _ _ _ _ c.loop-g.invariant.1 _ _ c.follow-left.ensures (some _ c.is_empty.ensures c.loop-g-test.true),
)

pub shape_of-s : goal.shape_of-s
shape_of-s c =
    c.loop-g.invariant.0 ∙ c.copy.auto.s

pub returns : goal.returns
returns c =
    let F = c.requires.0 in
    copied_stayed _ F _ _ c.copy.ensures _ _ _
    (staying_end _ F _ _ _ _ _ c.loop-g.invariant.1 (none _ c.is_empty.ensures c.loop-g-test.false))
