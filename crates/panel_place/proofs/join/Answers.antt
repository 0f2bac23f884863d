-- `join` goes by the panel's move.
use mathlib.Core.Path.{sym, ap}
use Rattle.std.proofs.lemmas.Result.{err_from_is_err_and}
use Rattle.panel_place.specs.Picks.{position_with}
use Rattle.panel_place.proofs.join.Goals as goal

pub returns-in_err-m : goal.returns-in_err-m
unfolding position_with
returns-in_err-m c =
    let p = err_from_is_err_and c.from_residual.result c.from_residual.ensures.1 in
    rw (p.1, p.2) (ap (position_with _) (sym c.in_err-m.was))

pub returns : goal.returns
unfolding position_with
returns c = ap (position_with _) (sym c.in_ok-m.was)
