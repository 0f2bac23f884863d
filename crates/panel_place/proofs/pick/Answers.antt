-- `pick` tests the entry, its counter and its input in order.
use mathlib.Core.Path.{refl, ◌∙◌, ap}
use Rattle.finite.proofs.Loops.{failed, passed}
use Rattle.game.specs.declared.InState.{InState}
use Rattle.panel_place.proofs.Picks.{pick_none, pick_counter, pick_input, pick_to}
use Rattle.panel_place.proofs.pick.Goals as goal
use Rattle.std.specs.declared.result.Result.TheVariants.{Ok}

pub returns-then-entry-eq-NONE : goal.returns-then-entry-eq-NONE
returns-then-entry-eq-NONE c = pick_none _ _ _ c.if-entry-eq-NONE.true

pub returns-then-counter-counters : goal.returns-then-counter-counters
returns-then-counter-counters c =
    pick_counter _ _ _ c.if-entry-eq-NONE.false c.counter-counter.ensures refl c.if-counter-counters.true

pub returns-then-not-allowed : goal.returns-then-not-allowed
returns-then-not-allowed c =
    pick_input _ _ _ c.if-entry-eq-NONE.false c.counter-counter.ensures refl (failed refl c.if-not-allowed.true-raw)

pub returns : goal.returns
returns c =
    ap (λ (i : InState). Ok (record { input = i; counter = c.counter-counter.result })) c.named.ensures
    ∙ pick_to _ _ _ c.if-entry-eq-NONE.false c.counter-counter.ensures refl c.if-counter-counters.false (passed refl c.if-not-allowed.false-raw)
