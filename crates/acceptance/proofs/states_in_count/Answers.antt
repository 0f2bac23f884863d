-- `states_in_count` looks at the states of both graphs.
use Rattle.finite.proofs.Loops.{failed, passed}
use Rattle.game.proofs.Steps.{states_stop, states_next}
use Rattle.acceptance.proofs.states_in_count.Goals as goal

pub returns-then-not-states_fit : goal.returns-then-not-states_fit
returns-then-not-states_fit c = states_stop _ (failed c.states_fit.ensures c.if-not-states_fit.true-raw)

pub returns : goal.returns
returns c =
    states_next _ _
    (passed c.states_fit.ensures c.if-not-states_fit.false-raw)
    c.states_fit-2.ensures
