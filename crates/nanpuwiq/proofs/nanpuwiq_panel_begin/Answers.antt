-- `nanpuwiq_panel_begin` meets its contract.
use mathlib.Core.Path.{ap, ◌∙◌}
use Rattle.player.specs.Player.{moved_of}
use Rattle.nanpuwiq_results.specs.Results.{zero_position}
use Rattle.nanpuwiq.proofs.nanpuwiq_panel_begin.Goals as goal

pub returns : goal.returns
returns c = c.first_move.ensures ∙ ap (moved_of zero_position) c.begin.ensures.answer
