-- `check` meets its contract.
use mathlib.Core.Path.{sym, ◌∙◌}
use Rattle.std.proofs.lemmas.Result.{err_from_is_err_and}
use Rattle.checker.proofs.Made.{faulty}
use Rattle.checker.proofs.check.Goals as goal

pub check_accepted-requires : goal.check_accepted-requires
check_accepted-requires c = sym c.accept.ensures.answer ∙ c.in_ok-accept.was

pub returns-in_err-accept : goal.returns-in_err-accept
returns-in_err-accept c =
    let p = err_from_is_err_and c.from_residual.result c.from_residual.ensures.1 in
    rw (p.1, p.2) (faulty _ _ _ _ (sym c.accept.ensures.answer ∙ c.in_err-accept.was))
