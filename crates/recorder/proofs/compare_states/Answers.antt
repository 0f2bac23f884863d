-- `compare_states` by its tests.
use mathlib.Core.Path.{refl, sym, ◌∙◌}
use native.Mathlib.Omega.{arith}
use lib.ListN.{length-map}
use Rattle.std.proofs.lemmas.Result.{err_from_is_err_and}
use Rattle.sets.proofs.Rows.{words_held}
use Rattle.player.proofs.Answers.{fits}
use Rattle.recorder.proofs.Steps.{compared_faulty, compared_misfit, compared_in, compares}
use Rattle.recorder.proofs.compare_states.Goals as goal

pub accept_lent-requires : goal.accept_lent-requires
accept_lent-requires c =
    let g = c.args.g in
    let fields = c.well_formed.0.1.1 in (
      refl,
      refl,
      words_held _ _ (omega (arith, fields.0.1.1.1.1.0.1.0.1)),
      words_held _ _ (omega (arith, fields.1.0.1.1.1.1.0.1.0.1)),
    )

pub controller_length-requires : goal.controller_length-requires
controller_length-requires c = sym c.accept_lent.ensures.answer ∙ c.in_ok-accept_lent.was

pub returns-then-table-controller_length : goal.returns-then-table-controller_length
returns-then-table-controller_length c =
    compares _ _ _ _
    (compared_misfit _ _ _ _ (sym c.accept_lent.ensures.answer ∙ c.in_ok-accept_lent.was)
    (λ h. c.if-table-controller_length.true (h ∙ sym c.controller_length.ensures)))

pub sizes_of-requires : goal.sizes_of-requires
sizes_of-requires c =
    sym c.accept_lent.ensures.answer ∙ c.in_ok-accept_lent.was

pub follow-requires : goal.follow-requires
follow-requires c = (
  sym c.accept_lent.ensures.answer ∙ c.in_ok-accept_lent.was,
  record { sizes = c.sizes_of.ensures; inputs = refl; outputs = refl },
  fits _ _ _ c.controller_length.ensures c.if-table-controller_length.false,
)

pub returns-in_err-accept_lent : goal.returns-in_err-accept_lent
returns-in_err-accept_lent c =
    let p = err_from_is_err_and c.from_residual.result c.from_residual.ensures.1 in
    rw (p.1, p.2) (compares _ _ _ _ (compared_faulty _ _ _ _ _ (sym c.accept_lent.ensures.answer ∙ c.in_err-accept_lent.was)))

pub returns : goal.returns
returns c =
    compares _ _ _ _
    (compared_in _ _ _ _ (sym c.accept_lent.ensures.answer ∙ c.in_ok-accept_lent.was)
    (c.if-table-controller_length.false ∙ c.controller_length.ensures) c.follow.ensures)
