-- `joined_map`.
use mathlib.Core.Path.{sym, ◌∙◌}
use Rattle.std.proofs.lemmas.Result.{err_from_is_err_and}
use Rattle.joined.proofs.Made.{joined_faulty}
use Rattle.joined.proofs.joined_map.Goals as goal

pub map_accepted-requires : goal.map_accepted-requires
map_accepted-requires c = sym c.accept.ensures.answer ∙ c.in_ok-accept.was

pub returns-in_err-accept : goal.returns-in_err-accept
returns-in_err-accept c =
    let p = err_from_is_err_and c.from_residual.result c.from_residual.ensures.1 in
    rw (p.1, p.2) (joined_faulty _ _ _ _ (sym c.accept.ensures.answer ∙ c.in_err-accept.was))
