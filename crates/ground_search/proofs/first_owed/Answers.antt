-- `first_owed`.
use native.Mathlib.Omega.{arith}
use mathlib.Core.Path.{sym, ◌∙◌}
use Rattle.finite.proofs.Loops.{any_start, any_turn}
use Rattle.ground_search.proofs.Search.{search_found, search_none}
use Rattle.ground_search.proofs.first_owed.Goals as goal

pub loop-r-init : goal.loop-r-init
loop-r-init c = (c.requires.requirements, omega arith, any_start _)

pub owed-requires : goal.owed-requires
owed-requires c = (c.requires, omega arith)

pub returns-then-owed : goal.returns-then-owed
returns-then-owed c =
    search_found _ c.loop-r.r _ (omega arith) c.loop-r.invariant.2 (sym c.owed.ensures ∙ c.if-owed.true)

pub loop-r-preserved : goal.loop-r-preserved
loop-r-preserved c =
    (c.loop-r.invariant.0, omega arith, any_turn c.loop-r.r _ c.loop-r.invariant.2 (sym c.owed.ensures ∙ c.if-owed.false))

pub returns : goal.returns
returns c = search_none _ c.loop-r.r _ (omega arith) (omega arith) c.loop-r.invariant.2
