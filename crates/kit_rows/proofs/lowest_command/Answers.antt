-- `lowest_command` stops at the first command that leads there.
use native.Mathlib.Omega.{arith}
use Rattle.kit_rows.proofs.Search.{lowest_start, lowest_past, lowest_here, lowest_none}
use Rattle.kit_rows.proofs.lowest_command.Goals as goal

pub loop-u-init : goal.loop-u-init
loop-u-init c = (omega arith, lowest_start _ _ _)

pub next_mode-requires : goal.next_mode-requires
next_mode-requires c = (c.requires.1, omega (arith, c.requires.0))

pub returns-then-next_mode-t : goal.returns-then-next_mode-t
returns-then-next_mode-t c =
    lowest_here _ _ _ _ c.loop-u.u c.loop-u-test.true c.loop-u.invariant.1 c.next_mode.ensures c.if-next_mode-t.true

pub loop-u-preserved : goal.loop-u-preserved
loop-u-preserved c = (omega arith, lowest_past _ _ _ _ c.loop-u.invariant.1 c.next_mode.ensures c.if-next_mode-t.false)

pub returns : goal.returns
returns c = lowest_none _ _ _ _ c.loop-u.u c.loop-u.invariant.0 c.loop-u-test.false c.loop-u.invariant.1
