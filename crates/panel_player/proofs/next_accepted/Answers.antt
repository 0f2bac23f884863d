-- `next_accepted` tests the length, the position and the row in order.
use Rattle.finite.proofs.Loops.{failed, passed}
use Rattle.panel_player.proofs.Answers.{fits, fits_not, not_fitting, not_there, both_hold, next_refused, next_at}
use Rattle.panel_player.proofs.next_accepted.Goals as goal

pub returns-then-table-environment_length : goal.returns-then-table-environment_length
returns-then-table-environment_length c = next_refused _ _ _ (not_fitting _ _ _ (fits_not _ _ _ c.environment_length.ensures c.if-table-environment_length.true))

pub returns-then-not-has_position : goal.returns-then-not-has_position
returns-then-not-has_position c =
    next_refused _ _ _
    (not_there _ _ _ _ c.environment_counters-counters.ensures (failed c.has_position.ensures c.if-not-has_position.true-raw))

pub row_move-requires : goal.row_move-requires
row_move-requires c =
    (c.requires, c.environment_counters-counters.ensures, passed c.has_position.ensures c.if-not-has_position.false-raw)

pub returns : goal.returns
returns c =
    next_at _ _ _ _
    (both_hold _ _ _ _ c.environment_counters-counters.ensures
    (fits _ _ _ c.environment_length.ensures c.if-table-environment_length.false)
    (passed c.has_position.ensures c.if-not-has_position.false-raw))
    c.row_move.ensures
