-- `solve_accepted`, the rows by component.
use mathlib.Core.Path.{sym, ◌∙◌}
use native.Mathlib.Omega.{arith}
use borrow.Author.Tests.{ltb-true, ltb-false}
use Rattle.game.proofs.Laws.{accepted_fits}
use Rattle.solver.proofs.Verdicts.{environment_long}
use Rattle.solver.proofs.Compact.{solve_scratch_short, solve_controller_short, solve_environment_short, written_system, written_environment}
use Rattle.solver.proofs.by_component.solve_accepted.Goals as goal

pub length-requires : goal.length-requires
length-requires c =
    let F = accepted_fits _ c.requires.0 in
    (F.input.most, F.output.most)

pub returns-then-scratch-length : goal.returns-then-scratch-length
returns-then-scratch-length c =
    solve_scratch_short _ _ _ _ c.requires.0 (omega (arith, c.length.ensures, c.if-scratch-length.true))

pub returns-then-is_short : goal.returns-then-is_short
returns-then-is_short c =
    solve_controller_short _ _ _ _ c.requires.0 (omega (arith, c.length.ensures, c.if-scratch-length.false))
    (ltb-true _ _ (sym c.is_short.ensures ∙ c.if-is_short.true))

pub returns-then-panel-e : goal.returns-then-panel-e
returns-then-panel-e c =
    solve_environment_short _ _ _ _ c.requires.0 (omega (arith, c.length.ensures, c.if-scratch-length.false))
    (ltb-false _ _ (sym c.is_short.ensures ∙ c.if-is_short.false))
    (omega (arith, environment_long c.args.g, c.environment_length_of-e.ensures, c.if-panel-e.true))

pub write_winner-c-requires : goal.write_winner-c-requires
write_winner-c-requires c =
    let q = c.requires in (
      q.0,
      omega (arith, c.length.ensures, c.if-scratch-length.false),
      ltb-false _ _ (sym c.is_short.ensures ∙ c.if-is_short.false),
      omega (arith, c.environment_length_of-e.ensures),
      q.1,
      q.2,
      q.3,
    )

pub returns-then-c-eq0 : goal.returns-then-c-eq0
returns-then-c-eq0 c =
    written_environment _ _ _ _ _ _ _ c.write_winner-c.ensures c.requires.0 (omega (arith, c.length.ensures, c.if-scratch-length.false))
    (ltb-false _ _ (sym c.is_short.ensures ∙ c.if-is_short.false)) _ c.environment_length_of-e.ensures (omega arith) c.if-c-eq0.true

pub returns : goal.returns
returns c =
    written_system _ _ _ _ _ _ _ c.write_winner-c.ensures c.requires.0 (omega (arith, c.length.ensures, c.if-scratch-length.false))
    (ltb-false _ _ (sym c.is_short.ensures ∙ c.if-is_short.false)) _ c.environment_length_of-e.ensures (omega arith) c.if-c-eq0.false
