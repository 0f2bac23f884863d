-- `first_accepted` tests the length first.
use Rattle.panel_player.proofs.Answers.{fits, fits_not, first_length, first_at}
use Rattle.panel_player.proofs.first_accepted.Goals as goal

pub returns-then-table-environment_length : goal.returns-then-table-environment_length
returns-then-table-environment_length c = first_length _ _ (fits_not _ _ _ c.environment_length.ensures c.if-table-environment_length.true)

pub returns : goal.returns
returns c = first_at _ _ _ (fits _ _ _ c.environment_length.ensures c.if-table-environment_length.false) c.start_move.ensures
