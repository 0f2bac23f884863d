-- `judge_name` meets its contract.
use Rattle.catalogue.proofs.Names.{unfit_name, fit_none, fit_open}
use Rattle.catalogue.proofs.judge_name.Goals as goal

pub returns-then-not-fit_name : goal.returns-then-not-fit_name
returns-then-not-fit_name c = unfit_name _ c.fit_name.ensures c.if-not-fit_name.true

pub returns-in-None : goal.returns-in-None
returns-in-None c = fit_none _ c.fit_name.ensures c.if-not-fit_name.false

pub returns-in-Some : goal.returns-in-Some
returns-in-Some c =
    fit_open _ c.fit_name.ensures c.if-not-fit_name.false c.judge_open.ensures
