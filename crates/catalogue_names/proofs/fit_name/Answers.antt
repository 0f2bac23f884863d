-- `fit_name` meets its contract.
use Rattle.catalogue_names.proofs.Splitting.{unfit_long, fit_short}
use Rattle.catalogue_names.proofs.fit_name.Goals as goal

pub returns-then-name-gt255 : goal.returns-then-name-gt255
returns-then-name-gt255 c = unfit_long _ c.if-name-gt255.true

pub returns : goal.returns
returns c = fit_short _ c.if-name-gt255.false c.has_zero.ensures
