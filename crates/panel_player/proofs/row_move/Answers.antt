-- `row_move` tests the input that the row's entry names.
use mathlib.Core.Path.{refl}
use Rattle.player_place.proofs.Moves.{inputs_most}
use Rattle.player_place.proofs.Tests.{position_in}
use Rattle.panel_player.proofs.Answers.{row_picked}
use Rattle.panel_player.proofs.row_move.Goals as goal

pub moves_to-allowed-requires : goal.moves_to-allowed-requires
moves_to-allowed-requires c =
    (refl, refl, (position_in _ _ _ c.requires.2).0, inputs_most _ c.requires.0)

pub returns : goal.returns
returns c =
    row_picked _ _ _ _ _ _ _ _ c.row_entry-entry.ensures c.named.ensures c.moves_to-allowed.ensures
    c.requires.1 c.pick.ensures
