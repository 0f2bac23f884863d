-- `join` by its test: the gates are the same, or the rows of the others are written.
use borrow.Author.Tests.{eqb-true}
use mathlib.Core.Path.{refl, sym, ◌∙◌}
use mathlib.Core.Logic.{inl}
use Rattle.environment_escape.proofs.Leaving.{joins_alone}
use Rattle.environment_escape.proofs.join.Goals as goal

pub insert-more-requires : goal.insert-more-requires
insert-more-requires c = c.requires.2

pub returns-then-same : goal.returns-then-same
returns-then-same c =
    (refl, record { each = inl (eqb-true _ _ (sym c.same.ensures ∙ c.if-same.true), c.insert-more.ensures, refl) })

pub approach-requires : goal.approach-requires
approach-requires c =
    let p = c.requires in
    (p.0, p.1)

pub insert-alone-requires : goal.insert-alone-requires
insert-alone-requires c =
    c.requires.2

pub returns : goal.returns
returns c =
    (refl, joins_alone _ _ _ _ _ _ _ _ c.empty.ensures.1 c.insert-alone.ensures c.approach.ensures)
