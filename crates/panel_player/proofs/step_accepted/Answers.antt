-- `step_accepted` tests the length, the position, the output and the row in order.
use Rattle.finite.proofs.Loops.{failed, passed}
use Rattle.player_place.proofs.Moves.{outputs_most}
use Rattle.player_place.proofs.Tests.{position_in}
use Rattle.panel_player.proofs.Answers.{fits, fits_not, not_fitting, not_there, both_hold, step_refused, step_output, step_at}
use Rattle.panel_player.proofs.step_accepted.Goals as goal

pub returns-then-table-environment_length : goal.returns-then-table-environment_length
returns-then-table-environment_length c = step_refused _ _ _ _ (not_fitting _ _ _ (fits_not _ _ _ c.environment_length.ensures c.if-table-environment_length.true))

pub returns-then-not-has_position : goal.returns-then-not-has_position
returns-then-not-has_position c =
    step_refused _ _ _ _
    (not_there _ _ _ _ c.environment_counters-counters.ensures (failed c.has_position.ensures c.if-not-has_position.true-raw))

pub replies_with-requires : goal.replies_with-requires
replies_with-requires c =
    ((position_in _ _ _ (passed c.has_position.ensures c.if-not-has_position.false-raw)).1, outputs_most _ c.requires)

pub returns-then-not-replies_with : goal.returns-then-not-replies_with
returns-then-not-replies_with c =
    step_output _ _ _ _
    (both_hold _ _ _ _ c.environment_counters-counters.ensures
    (fits _ _ _ c.environment_length.ensures c.if-table-environment_length.false)
    (passed c.has_position.ensures c.if-not-has_position.false-raw))
    (failed c.replies_with.ensures c.if-not-replies_with.true-raw)

pub row_move-requires : goal.row_move-requires
row_move-requires c =
    (c.requires, c.environment_counters-counters.ensures, passed c.has_position.ensures c.if-not-has_position.false-raw)

pub returns : goal.returns
returns c =
    step_at _ _ _ _
    (both_hold _ _ _ _ c.environment_counters-counters.ensures
    (fits _ _ _ c.environment_length.ensures c.if-table-environment_length.false)
    (passed c.has_position.ensures c.if-not-has_position.false-raw))
    (passed c.replies_with.ensures c.if-not-replies_with.false-raw) _ _ c.row_move.ensures c.join.ensures
