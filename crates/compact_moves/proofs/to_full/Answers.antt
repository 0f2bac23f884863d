-- `to_full`.
use mathlib.Core.Path.{sym, ◌∙◌}
use Rattle.std.proofs.lemmas.Result.{err_from_is_err_and}
use Rattle.compact_moves.proofs.Answers.{back_faulty}
use Rattle.compact_moves.proofs.to_full.Goals as goal

pub back_accepted-requires : goal.back_accepted-requires
back_accepted-requires c = sym c.accept.ensures.answer ∙ c.in_ok-accept.was

pub returns-in_err-accept : goal.returns-in_err-accept
returns-in_err-accept c =
    let p = err_from_is_err_and c.from_residual.result c.from_residual.ensures.1 in
    rw (p.1, p.2) (back_faulty _ _ _ _ (sym c.accept.ensures.answer ∙ c.in_err-accept.was))
