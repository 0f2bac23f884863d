-- `all_open`.
use native.Mathlib.Omega.{arith}
use Rattle.finite.proofs.Loops.{all_start, all_turn, all_stop, all_end, failed, passed}
use Rattle.interlock.proofs.all_open.Goals as goal

pub loop-i-init : goal.loop-i-init
loop-i-init c = (omega arith, all_start _)

pub opens-requires : goal.opens-requires
opens-requires c =
    (c.requires.0, omega arith, c.requires.1)

pub returns-then-not-opens : goal.returns-then-not-opens
returns-then-not-opens c =
    all_stop _ c.loop-i.i _ (omega arith) (failed c.opens.ensures c.if-not-opens.true-raw)

pub loop-i-preserved : goal.loop-i-preserved
loop-i-preserved c =
    (omega arith, all_turn c.loop-i.i _ c.loop-i.invariant.1 (passed c.opens.ensures c.if-not-opens.false-raw))

pub returns : goal.returns
returns c =
    all_end _ c.loop-i.i _ (omega arith) (omega arith) c.loop-i.invariant.1
