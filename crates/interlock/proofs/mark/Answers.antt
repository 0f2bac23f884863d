-- `mark`.
use mathlib.Core.Path.{sym, ◌∙◌}
use Rattle.interlock.proofs.Bars.{unbarred_filled}
use Rattle.interlock.proofs.mark.Goals as goal

pub mark_barred-requires : goal.mark_barred-requires
mark_barred-requires c =
    (c.requires.0, c.requires.1, c.requires.2, c.requires.3, sym c.some_barred.ensures ∙ c.if-some_barred.true)

pub returns : goal.returns
returns c =
    (c.mark_unbarred.ensures.0, unbarred_filled _ _ _ _ (sym c.some_barred.ensures ∙ c.if-some_barred.false) c.mark_unbarred.ensures.1)
