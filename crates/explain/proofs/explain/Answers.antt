-- `explain`.
use Rattle.std.proofs.lemmas.Result.{err_from_is_err_and}
use Rattle.explain.proofs.Made.{faulty}
use mathlib.Core.Path.{sym, ◌∙◌}
use Rattle.explain.proofs.explain.Goals as goal

pub explain_accepted-requires : goal.explain_accepted-requires
explain_accepted-requires c =
    sym c.accept.ensures.answer ∙ c.in_ok-accept.was

pub returns-in_err-accept : goal.returns-in_err-accept
returns-in_err-accept c =
    let p = err_from_is_err_and c.from_residual.result c.from_residual.ensures.1 in
    rw (p.1, p.2) (faulty _ _ _ _ _ (sym c.accept.ensures.answer ∙ c.in_err-accept.was))
