-- `judge`.
use mathlib.Core.Path.{sym, ◌∙◌}
use Rattle.std.proofs.lemmas.Result.{err_from_is_err_and}
use Rattle.interlock.proofs.Answers.{none_tests, judged_fault, judged_system, judged_environment}
use Rattle.interlock.proofs.judge.Goals as goal

pub returns-in_err-fault : goal.returns-in_err-fault
returns-in_err-fault c =
    let p = err_from_is_err_and c.from_residual.result c.from_residual.ensures.1 in
    rw (p.1, p.2) (judged_fault _ _ _ _ c.requires (sym c.fault.ensures ∙ c.in_err-fault.was))

pub wins-requires : goal.wins-requires
wins-requires c =
    let n = none_tests _ _ _ (sym c.fault.ensures ∙ c.in_ok-fault.was) in
    (c.requires, n.1, n.2)

pub returns-then-wins : goal.returns-then-wins
returns-then-wins c =
    judged_system _ _ _ c.requires (sym c.fault.ensures ∙ c.in_ok-fault.was) _ c.wins.ensures.1 (sym c.wins.ensures.0 ∙ c.if-wins.true)

pub returns : goal.returns
returns c =
    judged_environment _ _ _ c.requires (sym c.fault.ensures ∙ c.in_ok-fault.was) _ c.wins.ensures.1 (sym c.wins.ensures.0 ∙ c.if-wins.false)
