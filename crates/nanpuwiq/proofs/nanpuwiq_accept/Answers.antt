-- `nanpuwiq_accept` meets its contract.
use mathlib.Core.Path.{◌∙◌}
use Rattle.nanpuwiq.proofs.nanpuwiq_accept.Goals as goal

pub returns : goal.returns
returns c = c.refusal_code.ensures ∙ c.accept.ensures.number
