-- `first_lost_exit`.
use native.Mathlib.Omega.{arith}
use mathlib.Core.Path.{sym, ◌∙◌}
use Rattle.finite.proofs.Loops.{any_start, any_turn}
use Rattle.ground_search.proofs.Search.{search_found, search_none}
use Rattle.ground_search.proofs.first_lost_exit.Goals as goal

pub exits-x-requires : goal.exits-x-requires
exits-x-requires c = c.requires

pub loop-j-init : goal.loop-j-init
loop-j-init c = (omega arith, any_start _)

pub exit_lost-requires : goal.exit_lost-requires
exit_lost-requires c =
    (c.requires, c.exits-x.ensures, omega arith)

pub returns-then-exit_lost : goal.returns-then-exit_lost
returns-then-exit_lost c =
    search_found _ c.loop-j.j _ (omega arith) c.loop-j.invariant.1 (sym c.exit_lost.ensures ∙ c.if-exit_lost.true)

pub loop-j-preserved : goal.loop-j-preserved
loop-j-preserved c =
    (omega arith, any_turn c.loop-j.j _ c.loop-j.invariant.1 (sym c.exit_lost.ensures ∙ c.if-exit_lost.false))

pub returns : goal.returns
returns c = search_none _ c.loop-j.j _ (omega arith) (omega arith) c.loop-j.invariant.1
