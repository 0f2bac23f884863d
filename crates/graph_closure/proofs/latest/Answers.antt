-- `latest` takes the row that nothing joined.
use mathlib.Core.Path.{sym, ◌∙◌}
use borrow.Author.Tests.{eqb-true}
use Rattle.graph_closure.proofs.Sweeps.{fixed_now}
use Rattle.graph_closure.proofs.latest.Goals as goal

pub returns-then-same : goal.returns-then-same
returns-then-same c = λ l n e F. fixed_now l n _ _ e (eqb-true _ _ (sym c.same.ensures ∙ c.if-same.true))

pub returns : goal.returns
returns c = λ l n e F. F
