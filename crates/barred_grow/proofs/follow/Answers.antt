-- `follow`.
use mathlib.Core.Path.{◌∙◌}
use native.Mathlib.Omega.{arith}
use Rattle.sets.proofs.Rows.{count_same}
use Rattle.barred_grow.proofs.Rows.{grown_then}
use Rattle.barred_grow.proofs.follow.Goals as goal

pub grow_rows-requires : goal.grow_rows-requires
grow_rows-requires c =
    (c.requires.0, omega (arith, c.requires.2, count_same c.allow_left-before.new.s c.args.s.now c.allow_left-before.auto.s), c.requires.4)

pub shape_of-s : goal.shape_of-s
shape_of-s c =
    c.grow_rows.auto.s ∙ c.allow_left-before.auto.s

pub returns : goal.returns
returns c =
    grown_then _ _ _ _ c.requires.0 (c.allow_left-before.ensures _ _) (c.grow_rows.ensures _ _)
