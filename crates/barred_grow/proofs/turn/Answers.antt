-- `turn`.
use native.Mathlib.Omega.{arith}
use mathlib.Core.Path.{refl, ◌∙◌}
use Rattle.finite.proofs.But.{but_self, but_then}
use Rattle.sets.proofs.Rows.{count_same}
use Rattle.barred_grow.proofs.turn.Goals as goal

pub loop-i-init : goal.loop-i-init
loop-i-init c =
    (omega arith, refl, but_self _ _ _)

pub turn_row-requires : goal.turn_row-requires
turn_row-requires c =
    (c.requires.0, omega (arith, c.requires.0), c.requires.1, omega (arith, c.requires.2, count_same c.loop-i.s c.args.s.now (c.loop-i.invariant.1 ∙ c.empty.auto.s)))

pub loop-i-preserved : goal.loop-i-preserved
loop-i-preserved c =
    (omega arith, c.turn_row.auto.s ∙ c.loop-i.invariant.1, but_then c.loop-i.invariant.2 c.turn_row.ensures)

pub shape_of-s : goal.shape_of-s
shape_of-s c =
    c.loop-i.invariant.1 ∙ c.empty.auto.s

pub returns : goal.returns
returns c =
    but_then c.empty.ensures.apart c.loop-i.invariant.2
