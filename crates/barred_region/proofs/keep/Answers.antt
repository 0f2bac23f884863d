-- `keep`.
use mathlib.Core.Path.{refl, ◌∙◌}
use native.Mathlib.Omega.{arith}
use Rattle.sets.proofs.Rows.{count_same}
use Rattle.barred_region.proofs.Keeping.{freed_within, keeping_within, keeping_start, keeping_next, keeping_falls, keeping_end, kept_from, kept_prepared}
use Rattle.barred_region.proofs.keep.Goals as goal

pub prepare-requires : goal.prepare-requires
prepare-requires c =
    (c.requires.0, c.requires.1)

pub free-requires : goal.free-requires
free-requires c =
    (c.requires.0, omega (arith, c.requires.1, count_same c.prepare.new.s c.args.s.now c.prepare.auto.s), c.requires.2)

pub trim-requires : goal.trim-requires
trim-requires c =
    (c.requires.0, omega (arith, c.requires.1, count_same c.free.new.s c.args.s.now (c.free.auto.s ∙ c.prepare.auto.s)), freed_within _ c.requires.0 _ _ _ c.free.ensures)

pub loop-g-init : goal.loop-g-init
loop-g-init c =
    (refl, keeping_start _ c.requires.0 _ _ _ _ c.free.ensures c.trim.ensures)

pub pass-requires : goal.pass-requires
pass-requires c =
    (c.requires.0, omega (arith, c.requires.1, count_same c.loop-g.s c.args.s.now (c.loop-g.invariant.0 ∙ c.trim.auto.s ∙ c.free.auto.s ∙ c.prepare.auto.s)), keeping_within _ c.requires.0 _ _ _ c.loop-g.invariant.1)

pub loop-g-smaller : goal.loop-g-smaller
loop-g-smaller c =
    keeping_falls _ c.requires.0 _ _ _ c.loop-g.invariant.1 _ _ c.pass.ensures c.loop-g-test.true

pub loop-g-preserved : goal.loop-g-preserved
loop-g-preserved c =
    (c.pass.auto.s ∙ c.loop-g.invariant.0, keeping_next _ c.requires.0 _ _ _ c.loop-g.invariant.1 _ _ c.pass.ensures)

pub shape_of-s : goal.shape_of-s
shape_of-s c =
    c.pass.auto.s ∙ c.loop-g.invariant.0 ∙ c.trim.auto.s ∙ c.free.auto.s ∙ c.prepare.auto.s

pub returns : goal.returns
returns c =
    kept_prepared _ _ _ _ _ c.prepare.ensures
    (kept_from _ c.requires.0 _ _ _ _ _ c.free.ensures c.trim.ensures
    (keeping_end _ c.requires.0 _ _ _ c.loop-g.invariant.1 _ _ c.pass.ensures c.loop-g-test.false))
