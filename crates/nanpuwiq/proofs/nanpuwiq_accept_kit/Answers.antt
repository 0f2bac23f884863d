-- `nanpuwiq_accept_kit` meets its contract.
use mathlib.Core.Path.{◌∙◌}
use Rattle.nanpuwiq.proofs.nanpuwiq_accept_kit.Goals as goal

pub returns : goal.returns
returns c = c.refusal_code.ensures ∙ c.accept_kit.ensures.number
