-- `opens`.
use native.Mathlib.Omega.{arith}
use Rattle.finite.proofs.Loops.{any_start, any_turn}
use Rattle.region_verdict.proofs.Begin.{opens_found, opens_none}
use mathlib.Core.Path.{sym, ◌∙◌}
use Rattle.region_verdict.proofs.opens.Goals as goal

pub loop-o-init : goal.loop-o-init
loop-o-init c = (omega arith, any_start _)

pub opens_with-requires : goal.opens_with-requires
opens_with-requires c =
    let p = c.requires in
    (p.0, p.1, omega arith)

pub returns-then-opens_with : goal.returns-then-opens_with
returns-then-opens_with c =
    opens_found _ _ c.loop-o.o (omega arith) (sym c.opens_with.ensures ∙ c.if-opens_with.true)

pub loop-o-preserved : goal.loop-o-preserved
loop-o-preserved c =
    (omega arith, any_turn c.loop-o.o _ c.loop-o.invariant.1 (sym c.opens_with.ensures ∙ c.if-opens_with.false))

pub returns : goal.returns
returns c = opens_none _ _ c.loop-o.o (omega arith) (omega arith) c.loop-o.invariant.1
