-- `solve_accepted`.
use native.Mathlib.Omega.{arith}
use Rattle.game.proofs.Laws.{accepted_fits}
use Rattle.solver.proofs.Verdicts.{controller_long, environment_long}
use Rattle.solver.proofs.Verdicts.{solve_scratch_short, solve_controller_short, solve_environment_short, written_system, written_environment}
use Rattle.solver.proofs.solve_accepted.Goals as goal

pub length-requires : goal.length-requires
length-requires c =
    let F = accepted_fits _ c.requires.0 in
    (F.input.most, F.output.most)

pub returns-then-scratch-length : goal.returns-then-scratch-length
returns-then-scratch-length c =
    solve_scratch_short _ _ _ _ c.requires.0 (omega (arith, c.length.ensures, c.if-scratch-length.true))

pub returns-then-controller-c : goal.returns-then-controller-c
returns-then-controller-c c =
    solve_controller_short _ _ _ _ c.requires.0 (omega (arith, c.length.ensures))
    (omega (arith, controller_long c.args.g, c.controller_length_of-c.ensures))

pub returns-then-panel-e : goal.returns-then-panel-e
returns-then-panel-e c =
    solve_environment_short _ _ _ _ c.requires.0 (omega (arith, c.length.ensures))
    (omega (arith, controller_long c.args.g, c.controller_length_of-c.ensures))
    (omega (arith, environment_long c.args.g, c.environment_length_of-e.ensures))

pub write_winner-requires : goal.write_winner-requires
write_winner-requires c =
    let p = c.requires in (
      p.0,
      omega (arith, c.length.ensures),
      omega (arith, c.controller_length_of-c.ensures),
      omega (arith, c.environment_length_of-e.ensures),
      p.1,
      p.2,
      p.3,
    )

pub returns-then-write_winner : goal.returns-then-write_winner
returns-then-write_winner c =
    written_system _ _ _ _ _ _ _ c.write_winner.ensures c.requires.0
    (omega (arith, c.length.ensures)) _ _ c.controller_length_of-c.ensures c.environment_length_of-e.ensures (omega arith) (omega arith)
    c.if-write_winner.true

pub returns : goal.returns
returns c =
    written_environment _ _ _ _ _ _ _ c.write_winner.ensures c.requires.0
    (omega (arith, c.length.ensures)) _ _ c.controller_length_of-c.ensures c.environment_length_of-e.ensures (omega arith) (omega arith)
    c.if-write_winner.false
