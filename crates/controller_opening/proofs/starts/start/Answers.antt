-- `start`: the lowest initial output that is won, or none.
use mathlib.Core.Path.{sym, ◌∙◌}
use Rattle.controller_rows.proofs.Writes.{start_in, start_out, lowest_both}
use Rattle.controller_opening.proofs.starts.start.Goals as goal

pub returns-then-member : goal.returns-then-member
returns-then-member c =
    let chosen = lowest_both _ _ _ c.intersection.ensures c.lowest.ensures in
    start_in _ _ _ _ _ _ (sym c.member.ensures ∙ c.if-member.true) c.won_outputs-won.ensures chosen c.staying-e.ensures

pub returns : goal.returns
returns c = start_out _ _ _ _ _ _ (sym c.member.ensures ∙ c.if-member.false)
