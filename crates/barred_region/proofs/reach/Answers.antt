-- `reach`.
use mathlib.Core.Path.{refl, ◌∙◌}
use native.Mathlib.Omega.{arith}
use Rattle.sets.proofs.Rows.{count_same}
use Rattle.barred_region.proofs.Trimming.{emptied_within}
use Rattle.barred_region.proofs.Widening.{reaching_start, reaching_within, reaching_next, reaching_falls, reaching_end, reached_from}
use Rattle.barred_region.proofs.Widening.{wider_within, widened_within, widened_grown}
use Rattle.barred_region.proofs.reach.Goals as goal

pub empty-requires : goal.empty-requires
empty-requires c =
    (c.requires.1, omega (arith, c.requires.0.input.most))

pub grow-requires : goal.grow-requires
grow-requires c =
    (c.requires.0, omega (arith, c.requires.1, count_same c.empty.new.s c.args.s.now c.empty.auto.s), (emptied_within _ c.requires.0 _ _ c.empty.ensures c.requires.2))

pub loop-g-init : goal.loop-g-init
loop-g-init c =
    (refl, reaching_start _ c.requires.0 _ _ _ c.empty.ensures _ (c.grow.ensures _))

pub widen-requires : goal.widen-requires
widen-requires c =
    (c.requires.0, omega (arith, c.requires.1, count_same c.loop-g.s c.args.s.now (c.loop-g.invariant.0 ∙ c.grow.auto.s ∙ c.empty.auto.s)), (reaching_within _ c.requires.0 _ _ (wider_within _ c.requires.0 _ _ _ (c.grow.ensures _) (emptied_within _ c.requires.0 _ _ c.empty.ensures c.requires.2)) _ c.loop-g.invariant.1))

pub grow-requires-in-loop-g : goal.grow-requires-in-loop-g
grow-requires-in-loop-g c =
    (c.requires.0, omega (arith, c.requires.1, count_same c.widen.new.s c.args.s.now (c.widen.auto.s ∙ c.loop-g.invariant.0 ∙ c.grow.auto.s ∙ c.empty.auto.s)), widened_within _ c.requires.0 _ _ _ _ _ c.widen.ensures (reaching_within _ c.requires.0 _ _ (wider_within _ c.requires.0 _ _ _ (c.grow.ensures _) (emptied_within _ c.requires.0 _ _ c.empty.ensures c.requires.2)) _ c.loop-g.invariant.1))

pub loop-g-smaller : goal.loop-g-smaller
loop-g-smaller c =
    reaching_falls _ c.requires.0 _ _ _ c.loop-g.invariant.1 _ _ (widened_grown _ c.requires.0 _ _ _ _ _ _ c.widen.ensures c.loop-g-test.true (c.grow-in-loop-g.ensures _)) refl

pub loop-g-preserved : goal.loop-g-preserved
loop-g-preserved c =
    (c.grow-in-loop-g.auto.s ∙ c.widen.auto.s ∙ c.loop-g.invariant.0, reaching_next _ c.requires.0 _ _ _ c.loop-g.invariant.1 _ _ (widened_grown _ c.requires.0 _ _ _ _ _ _ c.widen.ensures c.loop-g-test.true (c.grow-in-loop-g.ensures _)))

pub shape_of-s : goal.shape_of-s
shape_of-s c =
    c.widen.auto.s ∙ c.loop-g.invariant.0 ∙ c.grow.auto.s ∙ c.empty.auto.s

pub returns : goal.returns
returns c =
    reached_from _ c.requires.0 _ _ _ _ _ c.empty.ensures (c.grow.ensures _) (reaching_end _ c.requires.0 _ _ _ c.loop-g.invariant.1 _ _ c.widen.ensures c.loop-g-test.false)
