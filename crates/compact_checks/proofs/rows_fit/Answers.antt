-- `rows_fit`: where every input leads, each is its component's smallest.
use mathlib.Core.Path.{sym, ◌∙◌}
use borrow.Author.Tests.{eqb-true}
use Rattle.game.proofs.Laws.{accepted_fits}
use Rattle.compact_checks.proofs.Game.{alone_fits}
use Rattle.compact_checks.proofs.rows_fit.Goals as goal

pub below-requires : goal.below-requires
below-requires c = (accepted_fits _ c.requires.0).input.most

pub returns-then-same : goal.returns-then-same
returns-then-same c =
    alone_fits _ _ c.requires.2 c.requires.1 c.below.ensures (eqb-true _ _ (sym c.same.ensures ∙ c.if-same.true))

pub parts_fit-requires : goal.parts_fit-requires
parts_fit-requires c =
    c.requires

pub returns : goal.returns
returns c = c.parts_fit.ensures
