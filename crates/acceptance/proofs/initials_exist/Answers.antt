-- `initials_exist` looks at both sets of initial states.
use Rattle.finite.proofs.Loops.{failed, passed}
use Rattle.game.proofs.Steps.{initials_stop, initials_next}
use Rattle.acceptance.proofs.initials_exist.Goals as goal

pub returns-then-not-has_initial : goal.returns-then-not-has_initial
returns-then-not-has_initial c = initials_stop _ (failed c.has_initial.ensures c.if-not-has_initial.true-raw)

pub returns : goal.returns
returns c =
    initials_next _ _
    (passed c.has_initial.ensures c.if-not-has_initial.false-raw)
    c.has_initial-2.ensures
