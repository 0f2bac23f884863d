-- `parts` meets its contract.
use mathlib.Core.Path.{sym}
use Rattle.sets.proofs.Rows.{sets_parts}
use Rattle.sets.proofs.parts.Goals as goal

pub returns : goal.returns
returns c = sym (sets_parts _)
