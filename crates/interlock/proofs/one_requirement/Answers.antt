-- `one_requirement`.
use mathlib.Core.Path.{sym, ◌∙◌}
use Rattle.interlock.proofs.Bars.{one_some, one_none}
use Rattle.interlock.proofs.one_requirement.Goals as goal

pub returns-then-some_barred : goal.returns-then-some_barred
returns-then-some_barred c = one_some _ _ (sym c.some_barred.ensures ∙ c.if-some_barred.true)

pub returns : goal.returns
returns c = one_none _ _ (sym c.some_barred.ensures ∙ c.if-some_barred.false)
