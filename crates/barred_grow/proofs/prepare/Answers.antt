-- `prepare`.
use native.Mathlib.Omega.{arith}
use mathlib.Core.Path.{◌∙◌}
use Rattle.finite.proofs.But.{but_then, but_wider}
use Rattle.sets.proofs.Rows.{count_same}
use Rattle.barred_rows.specs.Areas.{reached_at, staying_at}
use Rattle.barred_grow.proofs.prepare.Goals as goal

pub turn-requires : goal.turn-requires
turn-requires c =
    (c.requires.0.input.most, omega arith, c.requires.1)

pub turn-requires-2 : goal.turn-requires-2
turn-requires-2 c =
    (c.requires.0.output.most, omega arith, omega (arith, c.requires.1, count_same c.turn.new.s c.args.s.now c.turn.auto.s))

pub shape_of-s : goal.shape_of-s
shape_of-s c =
    c.turn-2.auto.s ∙ c.turn.auto.s

pub returns : goal.returns
returns c =
    but_then (but_wider reached_at staying_at (omega arith) (omega (arith, c.requires.0.input.most)) c.turn.ensures)
    (but_wider reached_at staying_at (omega arith) (omega (arith, c.requires.0.output.most)) c.turn-2.ensures)
