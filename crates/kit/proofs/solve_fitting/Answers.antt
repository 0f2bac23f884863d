-- `solve_fitting`: the solver's answer, and the kit's table where the system wins.
use mathlib.Core.Path.{◌∙◌, ap}
use Rattle.std.specs.declared.result.Result.TheVariants.{Ok}
use Rattle.std.proofs.lemmas.Result.{err_from_is_err_and}
use Rattle.kit.proofs.Handing.{game_accepted, front_in, front_long, scratch_ready, ready, done_system, done_environment, done_refused}
use Rattle.kit.proofs.solve_fitting.Goals as goal

pub controller_counters-requires : goal.controller_counters-requires
controller_counters-requires c =
    let p = c.requires in game_accepted _ _ p.accepted p.game

pub slice_bounds-fill-end : goal.slice_bounds-fill-end
slice_bounds-fill-end c =
    front_in _ _ _ _ _ _ _ _ _ c.args.room.now c.requires c.solve_into.ensures (c.in_ok-answer.was ∙ ap Ok c.in-System.is)

pub slice_bounds-fill-end-in-System : goal.slice_bounds-fill-end-in-System
slice_bounds-fill-end-in-System c =
    front_long _ _ _ _ _ _ _ _ _ c.args.room.now c.requires c.solve_into.ensures (c.in_ok-answer.was ∙ ap Ok c.in-System.is)

pub fill-requires : goal.fill-requires
fill-requires c =
    let solved = c.solve_into.ensures in (
      ready _ _ _ _ _ _ _ _ _ c.args.room.now c.requires solved (c.in_ok-answer.was ∙ ap Ok c.in-System.is) _ c.controller_counters.ensures,
      scratch_ready _ _ _ _ _ _ _ _ _ c.args.room.now c.requires solved (c.in_ok-answer.was ∙ ap Ok c.in-System.is),
    )

pub returns-in-System : goal.returns-in-System
returns-in-System c =
    done_system _ _ _ _ _ _ _ _ _ _ c.requires c.solve_into.ensures (c.in_ok-answer.was ∙ ap Ok c.in-System.is) c.fill.ensures.0
    c.fill.ensures.1

pub returns-in-Environment : goal.returns-in-Environment
returns-in-Environment c =
    done_environment _ _ _ _ _ _ _ _ _ _ c.requires c.solve_into.ensures (c.in_ok-answer.was ∙ ap Ok c.in-Environment.is)

pub returns-in_err-answer : goal.returns-in_err-answer
returns-in_err-answer c =
    let p = err_from_is_err_and c.from_residual.result c.from_residual.ensures.1 in
    rw (p.1, p.2) (done_refused _ _ _ _ _ _ _ _ _ _ c.requires c.solve_into.ensures c.in_err-answer.was)
