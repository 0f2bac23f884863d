-- `solve_into`.
use Rattle.std.proofs.lemmas.Result.{err_from_is_err_and}
use Rattle.solver.proofs.Verdicts.{solve_faulty}
use mathlib.Core.Path.{refl, sym, ◌∙◌, ap}
use Rattle.game.specs.declared.Game.{Game}
use Rattle.board.proofs.Laying.{own_sizes}
use Rattle.solver.proofs.solve_into.Goals as goal

pub lay-requires : goal.lay-requires
lay-requires c = refl

pub accept_lent-requires : goal.accept_lent-requires
accept_lent-requires c =
    let same = c.lay.ensures in (
      c.in_rows.ensures.0 ∙ ap (λ (y : Game). y.input.moves) same,
      c.out_rows.ensures.0 ∙ ap (λ (y : Game). y.output.moves) same,
      c.in_rows.ensures.1,
      c.out_rows.ensures.1,
    )

pub outline_of-given-requires : goal.outline_of-given-requires
outline_of-given-requires c =
    (sym c.accept_lent.ensures.answer ∙ c.in_ok-accept_lent.was, c.list_of-wanted.ensures.1)

pub solve_accepted-requires : goal.solve_accepted-requires
solve_accepted-requires c = (
  sym c.accept_lent.ensures.answer ∙ c.in_ok-accept_lent.was,
  c.outline_of-given.ensures,
  c.list_of-wanted.ensures.0,
  own_sizes _ _ _ c.lay.ensures,
)

pub returns-in_err-accept_lent : goal.returns-in_err-accept_lent
returns-in_err-accept_lent c =
    let p = err_from_is_err_and c.from_residual.result c.from_residual.ensures.1 in
    rw (p.1, p.2) (solve_faulty _ _ _ _ _ (sym c.accept_lent.ensures.answer ∙ c.in_err-accept_lent.was))
