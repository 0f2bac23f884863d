-- `empty_game` meets its contract.
use mathlib.Core.Path.{◌∙◌}
use Rattle.text_scan.proofs.WholeSteps.{empty_record}
use Rattle.text_shape.specs.Text.{empty_game}
use Rattle.text_scan.proofs.whole.empty_game.Goals as goal

pub returns : goal.returns
unfolding empty_game
returns c =
    let none = c.empty_graph-h.ensures ∙ empty_record in
    λ i. record { input = none i; output = none i; k = 0; requirements = c.no_requirements-qs.ensures i }
