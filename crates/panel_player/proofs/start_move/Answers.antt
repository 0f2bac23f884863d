-- `start_move` tests the input that the table's start names.
use Rattle.panel_player.proofs.Answers.{start_picked}
use Rattle.panel_player.proofs.start_move.Goals as goal

pub returns : goal.returns
returns c =
    start_picked _ _ _ _ _ _ _ c.entry-entry.ensures c.named.ensures
    c.begins_with-allowed.ensures c.environment_counters.ensures c.pick.ensures
