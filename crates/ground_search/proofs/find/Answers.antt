-- `find`.
use mathlib.Core.Path.{sym, ◌∙◌}
use Rattle.scratch.proofs.Read.{ready_won}
use Rattle.ground_search.proofs.find.Goals as goal

pub won_ground-requires : goal.won_ground-requires
won_ground-requires c =
    let A = c.requires in
    (A, sym (ready_won A.ready _ _ A.input A.output) ∙ sym c.won.ensures ∙ c.if-won.true)

pub lost_ground-requires : goal.lost_ground-requires
lost_ground-requires c =
    let A = c.requires in
    (A, sym (ready_won A.ready _ _ A.input A.output) ∙ sym c.won.ensures ∙ c.if-won.false)
