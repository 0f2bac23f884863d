-- `count_components`.
use mathlib.Core.Path.{sym, ◌∙◌}
use Rattle.std.proofs.lemmas.Result.{err_from_is_err_and}
use Rattle.compact_moves.proofs.Answers.{count_faulty, count_made}
use Rattle.compact_moves.proofs.count_components.Goals as goal

pub component_count-requires : goal.component_count-requires
component_count-requires c = sym c.accept-accepted.ensures.answer ∙ c.in_ok-accepted.was

pub returns-in_err-accepted : goal.returns-in_err-accepted
returns-in_err-accepted c =
    let p = err_from_is_err_and c.from_residual.result c.from_residual.ensures.1 in
    rw (p.1, p.2) (count_faulty _ _ (sym c.accept-accepted.ensures.answer ∙ c.in_err-accepted.was))

pub returns : goal.returns
returns c =
    count_made _ _ (sym c.accept-accepted.ensures.answer ∙ c.in_ok-accepted.was) c.component_count.ensures
