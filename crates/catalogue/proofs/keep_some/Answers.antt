-- `keep_some` meets its contract.
use Rattle.catalogue.proofs.keep_some.Goals as goal

pub returns : goal.returns
returns c = record { part = _; keeps = c.keep-kept.ensures }
