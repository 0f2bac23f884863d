-- `nanpuwiq_panel_first` meets its contract.
use mathlib.Core.Path.{ap, ◌∙◌}
use Rattle.nanpuwiq_results.specs.Results.{panel_moved}
use Rattle.nanpuwiq.proofs.nanpuwiq_panel_first.Goals as goal

pub returns : goal.returns
returns c = c.panel_move.ensures ∙ ap panel_moved c.first.ensures.answer
