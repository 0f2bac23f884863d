-- `verdict`.
use native.Mathlib.Omega.{arith}
use Rattle.finite.proofs.Loops.{all_start, all_turn, failed, passed}
use Rattle.region_verdict.proofs.Begin.{verdict_no, verdict_yes}
use Rattle.region_verdict.proofs.system_wins.Goals as goal

pub loop-i-init : goal.loop-i-init
loop-i-init c = (omega arith, all_start _)

pub opens_if-requires : goal.opens_if-requires
opens_if-requires c = (c.requires, omega arith)

pub returns-then-not-opens_if : goal.returns-then-not-opens_if
returns-then-not-opens_if c =
    verdict_no _ c.loop-i.i (omega arith) (failed c.opens_if.ensures c.if-not-opens_if.true-raw)

pub loop-i-preserved : goal.loop-i-preserved
loop-i-preserved c =
    (omega arith, all_turn c.loop-i.i _ c.loop-i.invariant.1 (passed c.opens_if.ensures c.if-not-opens_if.false-raw))

pub returns : goal.returns
returns c = verdict_yes _ c.loop-i.i (omega arith) (omega arith) c.loop-i.invariant.1
