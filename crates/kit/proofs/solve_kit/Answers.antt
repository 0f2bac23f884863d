-- `solve_kit`: on an accepted kit, or its number.
use mathlib.Core.Path.{sym, ◌∙◌}
use Rattle.std.proofs.lemmas.Result.{err_from_is_err_and}
use Rattle.kit.proofs.Answers.{kit_faulty}
use Rattle.kit.proofs.solve_kit.Goals as goal

pub solve_accepted-requires : goal.solve_accepted-requires
solve_accepted-requires c =
    sym c.accept_kit.ensures.answer ∙ c.in_ok-accept_kit.was

pub returns-in_err-accept_kit : goal.returns-in_err-accept_kit
returns-in_err-accept_kit c =
    let p = err_from_is_err_and c.from_residual.result c.from_residual.ensures.1 in
    rw (p.1, p.2) (kit_faulty _ _ _ _ _ _ (sym c.accept_kit.ensures.answer ∙ c.in_err-accept_kit.was))

pub returns : goal.returns
returns c =
    c.solve_accepted.ensures
