-- `grow`.
use mathlib.Core.Path.{refl, ◌∙◌}
use native.Mathlib.Omega.{arith}
use Rattle.sets.specs.Words.{bits_of}
use Rattle.sets.proofs.Rows.{count_same, some}
use Rattle.barred_grow.proofs.Rows.{grown_self, grown_then, grown_any}
use Rattle.barred_grow.proofs.Growing.{inside_moves, followed_next, followed_falls, grown_inputs, grown_within, grown_wider}
use Rattle.barred_grow.proofs.grow.Goals as goal

pub empty-requires : goal.empty-requires
empty-requires c =
    (c.requires.1, omega (arith, c.requires.0.input.most))

pub empty-requires-2 : goal.empty-requires-2
empty-requires-2 c =
    (omega (arith, c.requires.1, count_same c.empty.new.s c.args.s.now c.empty.auto.s), omega (arith, c.requires.0.input.most))

pub below-requires : goal.below-requires
below-requires c =
    c.requires.0.input.most

pub grow_rows-requires : goal.grow_rows-requires
grow_rows-requires c =
    (c.requires.0.input.most, omega (arith, c.requires.1, count_same c.empty-2.new.s c.args.s.now (c.empty-2.auto.s ∙ c.empty.auto.s)), inside_moves _ c.requires.0 (bits_of c.args.goal.0))

pub loop-g-init : goal.loop-g-init
loop-g-init c =
    (refl, grown_self _ _ _ _ c.requires.0.input.most _ _)

pub follow-left-requires : goal.follow-left-requires
follow-left-requires c =
    (c.requires.0.input.most, c.requires.0.output.most, omega (arith, c.requires.1, count_same c.loop-g.s c.args.s.now (c.loop-g.invariant.0 ∙ c.grow_rows.auto.s ∙ c.empty-2.auto.s ∙ c.empty.auto.s)), (grown_inputs _ c.requires.0 _ _ _ _ _ c.empty.ensures c.empty-2.ensures _ _ (grown_then _ _ _ _ c.requires.0.input.most (grown_any _ _ _ _ c.requires.0.input.most (c.grow_rows.ensures _ _) _) c.loop-g.invariant.1) c.requires.2 c.below.ensures), inside_moves _ c.requires.0 (bits_of c.args.goal.0))

pub loop-g-smaller : goal.loop-g-smaller
loop-g-smaller c =
    followed_falls _ c.requires.0 _ _ _ _ _ c.follow-left.ensures (some _ c.is_empty.ensures c.loop-g-test.true) (grown_inputs _ c.requires.0 _ _ _ _ _ c.empty.ensures c.empty-2.ensures _ _ (grown_then _ _ _ _ c.requires.0.input.most (grown_any _ _ _ _ c.requires.0.input.most (c.grow_rows.ensures _ _) _) c.loop-g.invariant.1) c.requires.2 c.below.ensures) (grown_within _ c.requires.0 _ _ _ _ _ c.empty.ensures c.empty-2.ensures _ _ (grown_then _ _ _ _ c.requires.0.input.most (grown_any _ _ _ _ c.requires.0.input.most (c.grow_rows.ensures _ _) _) c.loop-g.invariant.1) c.requires.2)

pub loop-g-preserved : goal.loop-g-preserved
loop-g-preserved c =
    (c.follow-left.auto.s ∙ c.loop-g.invariant.0, followed_next _ c.requires.0 _ _ _ _ _ c.follow-left.ensures c.loop-g.invariant.1)

pub shape_of-s : goal.shape_of-s
shape_of-s c =
    c.loop-g.invariant.0 ∙ c.grow_rows.auto.s ∙ c.empty-2.auto.s ∙ c.empty.auto.s

pub returns : goal.returns
returns c =
    grown_wider _ c.requires.0 _ _ _ _ _ c.empty.ensures c.empty-2.ensures _ _ (grown_then _ _ _ _ c.requires.0.input.most (grown_any _ _ _ _ c.requires.0.input.most (c.grow_rows.ensures _ _) _) c.loop-g.invariant.1) c.requires.2
