-- `first_unreplied`.
use native.Mathlib.Omega.{arith}
use mathlib.Core.Path.{sym, ◌∙◌}
use Rattle.finite.proofs.Loops.{any_start, any_turn}
use Rattle.ground_search.proofs.Search.{search_found, search_none}
use Rattle.ground_search.proofs.first_unreplied.Goals as goal

pub loop-j-init : goal.loop-j-init
loop-j-init c = (omega arith, any_start _)

pub unreplied-requires : goal.unreplied-requires
unreplied-requires c = (c.requires, omega arith)

pub returns-then-unreplied : goal.returns-then-unreplied
returns-then-unreplied c =
    search_found _ c.loop-j.j _ (omega arith) c.loop-j.invariant.1 (sym c.unreplied.ensures ∙ c.if-unreplied.true)

pub loop-j-preserved : goal.loop-j-preserved
loop-j-preserved c =
    (omega arith, any_turn c.loop-j.j _ c.loop-j.invariant.1 (sym c.unreplied.ensures ∙ c.if-unreplied.false))

pub returns : goal.returns
returns c = search_none _ c.loop-j.j _ (omega arith) (omega arith) c.loop-j.invariant.1
