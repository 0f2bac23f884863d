-- `first_missed`.
use native.Mathlib.Omega.{arith}
use mathlib.Core.Bool.{not}
use mathlib.Core.Path.{sym, ◌∙◌, ap}
use Rattle.finite.proofs.Loops.{any_start, any_turn}
use Rattle.region_dues.specs.Dues.{out_meets_at}
use Rattle.ground_search.specs.Asked.{missed_in}
use Rattle.ground_search.proofs.Search.{search_found, search_none}
use Rattle.ground_search.proofs.first_missed.Goals as goal

pub loop-j-init : goal.loop-j-init
unfolding missed_in out_meets_at
loop-j-init c = (c.requires.0.guaranteed c.args.r c.requires.1, omega arith, any_start _)

pub returns-then-not-meets : goal.returns-then-not-meets
unfolding missed_in out_meets_at
returns-then-not-meets c =
    search_found _ c.loop-j.j _ (omega arith) c.loop-j.invariant.2 (sym (ap not c.meets.ensures) ∙ c.if-not-meets.true-raw)

pub loop-j-preserved : goal.loop-j-preserved
unfolding missed_in out_meets_at
loop-j-preserved c =
    (c.loop-j.invariant.0, omega arith, any_turn c.loop-j.j _ c.loop-j.invariant.2 (sym (ap not c.meets.ensures) ∙ c.if-not-meets.false-raw))

pub returns : goal.returns
unfolding missed_in out_meets_at
returns c = search_none _ c.loop-j.j _ (omega arith) (omega arith) c.loop-j.invariant.2
