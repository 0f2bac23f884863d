-- `moves_from` goes through the commands.
use native.Mathlib.Omega.{arith}
use mathlib.Core.Path.{◌∙◌, ap}
use Rattle.sets.specs.Words.{bits_of}
use Rattle.kit_drives.proofs.Moves.{made_none, made_in, made_past, made_all}
use Rattle.kit_drives.proofs.moves_from.Goals as goal
use Rattle.kit_drives.proofs.moves_from.Goals.{then-t-modes, else-t-modes}

pub loop-u-init : goal.loop-u-init
loop-u-init c = (omega arith, c.empty-x.ensures.1 ∙ made_none _ _ _)

pub next_mode-t-requires : goal.next_mode-t-requires
next_mode-t-requires c = (c.requires.2, omega (arith, c.requires.1))

pub insert-x-requires : goal.insert-x-requires
insert-x-requires c = omega (arith, c.if-t-modes.true, c.requires.0)

pub loop-u-preserved : goal.loop-u-preserved
loop-u-preserved c = (
  omega arith,
  elim c.if-t-modes.branch [
    | then-t-modes w ↦ ap bits_of w.x-is ∙ made_in _ _ _ c.loop-u.u _ _ _ c.loop-u.invariant.1 c.next_mode-t.ensures w.if-t-modes.true w.insert-x.ensures
    | else-t-modes w ↦ ap bits_of w.x-is ∙ made_past _ _ _ c.loop-u.u _ _ c.loop-u.invariant.1 c.next_mode-t.ensures w.if-t-modes.false
  ],
)

pub returns : goal.returns
returns c = made_all _ _ _ c.loop-u.u _ _ (omega arith) (omega arith) c.loop-u.invariant.1
