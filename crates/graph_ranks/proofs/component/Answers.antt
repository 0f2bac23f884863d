-- `component` searches among the inputs that are not below the one that leads it.
use mathlib.Core.Path.{sym, ◌∙◌, ap}
use mathlib.Core.Bool.{not}
use native.Mathlib.Omega.{arith}
use borrow.Author.Tests.{lt-ltb, ltb-true, le-ltb}
use Rattle.finite.proofs.Truth.{and_intro, and_left}
use Rattle.graph_ranks.proofs.Walk.{around_above}
use Rattle.graph_ranks.proofs.component.Goals as goal

pub below-requires : goal.below-requires
below-requires c = c.requires.1

pub below-requires-2 : goal.below-requires-2
below-requires-2 c =
    omega (arith, c.requires.1, c.requires.2)

pub around-requires : goal.around-requires
around-requires c =
    let j = c.args.j.0 in (
      c.requires.0,
      c.requires.1,
      λ t m. ltb-true t _ (sym (c.below.ensures t) ∙ and_left _ _ (sym (c.difference-rest.ensures t) ∙ m)),
      c.difference-rest.ensures j ∙ and_intro (c.below.ensures j ∙ lt-ltb j _ c.requires.2) (ap not (c.below-2.ensures j ∙ le-ltb j j (omega arith))),
      c.requires.3,
    )

pub returns : goal.returns
returns c g A e q l =
    around_above g A _ _ _ _ _ _ _ e q c.requires.2 l c.below.ensures c.below-2.ensures c.difference-rest.ensures c.around.ensures
