-- `accepts`.
use native.Mathlib.Omega.{arith}
use Rattle.finite.proofs.Loops.{all_start, all_turn, all_stop, all_end, failed, passed}
use Rattle.joined_component.specs.Component.{accepts_on}
use Rattle.joined_component.proofs.accepts.Goals as goal

pub loop-r-init : goal.loop-r-init
loop-r-init c = (omega arith, all_start _)

pub is_met-requires : goal.is_met-requires
is_met-requires c = (c.requires, omega arith)

pub returns-then-not-is_met : goal.returns-then-not-is_met
unfolding accepts_on
returns-then-not-is_met c =
    all_stop _ c.loop-r.r _ (omega arith) (failed c.is_met.ensures c.if-not-is_met.true-raw)

pub loop-r-preserved : goal.loop-r-preserved
loop-r-preserved c =
    (omega arith, all_turn c.loop-r.r _ c.loop-r.invariant.1 (passed c.is_met.ensures c.if-not-is_met.false-raw))

pub returns : goal.returns
unfolding accepts_on
returns c = all_end _ c.loop-r.r _ (omega arith) (omega arith) c.loop-r.invariant.1
