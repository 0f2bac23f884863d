-- `barred_verdict`.
use mathlib.Core.Path.{sym, ◌∙◌}
use Rattle.std.proofs.lemmas.Result.{err_from_is_err_and}
use Rattle.interlock.proofs.Answers.{judged_faulty}
use Rattle.interlock.proofs.barred_verdict.Goals as goal

pub judge-requires : goal.judge-requires
judge-requires c = sym c.accept.ensures.answer ∙ c.in_ok-accept.was

pub returns-in_err-accept : goal.returns-in_err-accept
returns-in_err-accept c =
    let p = err_from_is_err_and c.from_residual.result c.from_residual.ensures.1 in
    rw (p.1, p.2) (judged_faulty _ _ _ _ (sym c.accept.ensures.answer ∙ c.in_err-accept.was))
