-- `begin_accepted` tests the length, the output and the start in order.
use Rattle.finite.proofs.Loops.{failed, passed}
use Rattle.panel_player.proofs.Answers.{fits, fits_not, begin_length, begin_output, begin_at}
use Rattle.panel_player.proofs.begin_accepted.Goals as goal

pub returns-then-table-environment_length : goal.returns-then-table-environment_length
returns-then-table-environment_length c = begin_length _ _ _ (fits_not _ _ _ c.environment_length.ensures c.if-table-environment_length.true)

pub returns-then-not-opens_with : goal.returns-then-not-opens_with
returns-then-not-opens_with c =
    begin_output _ _ _ (fits _ _ _ c.environment_length.ensures c.if-table-environment_length.false)
    (failed c.opens_with.ensures c.if-not-opens_with.true-raw)

pub returns : goal.returns
returns c =
    begin_at _ _ _ (fits _ _ _ c.environment_length.ensures c.if-table-environment_length.false)
    (passed c.opens_with.ensures c.if-not-opens_with.false-raw) _ _ c.start_move.ensures c.join.ensures
