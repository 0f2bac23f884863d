-- `renewed` leaves the set that is known.
use mathlib.Core.Path.{sym, ◌∙◌}
use borrow.Author.Tests.{eqb-true}
use Rattle.graph_closure.proofs.Sweeps.{fixed_same}
use Rattle.graph_closure.proofs.renewed.Goals as goal

pub returns-then-same : goal.returns-then-same
returns-then-same c =
    fixed_same _ _ _ _ (eqb-true _ _ (sym c.same.ensures ∙ c.if-same.true)) c.requires.2

pub returns : goal.returns
returns c = c.joined.ensures
