-- `wins`.
use mathlib.Core.Path.{sym, ◌∙◌}
use Rattle.interlock.proofs.Bars.{wins_some, wins_none}
use Rattle.interlock.proofs.wins.Goals as goal

pub returns-then-some_barred : goal.returns-then-some_barred
returns-then-some_barred c =
    (c.wins_barred.ensures.0 ∙ wins_some _ _ (sym c.some_barred.ensures ∙ c.if-some_barred.true), c.wins_barred.ensures.1)

pub returns : goal.returns
returns c =
    (c.wins_unbarred.ensures.0 ∙ wins_none _ _ (sym c.some_barred.ensures ∙ c.if-some_barred.false), c.wins_unbarred.ensures.1)
