-- `span` by its test.
use native.Mathlib.Omega.{arith}
use Rattle.graph_ranks.proofs.Search.{span_none, span_some}
use Rattle.graph_ranks.proofs.span.Goals as goal

pub returns-then-t-l : goal.returns-then-t-l
returns-then-t-l c =
    span_none _ _ _ 0 0 _ c.lowest-l.ensures c.requires c.if-t-l.true

pub overflow_add-t : goal.overflow_add-t
overflow_add-t c = omega (arith, c.requires)

pub below-requires : goal.below-requires
below-requires c = omega (arith, c.requires)

pub overflow_add-l : goal.overflow_add-l
overflow_add-l c = omega (arith, c.requires, c.if-t-l.false)

pub below-requires-2 : goal.below-requires-2
below-requires-2 c = omega (arith, c.requires, c.if-t-l.false)

pub returns : goal.returns
returns c =
    span_some _ _ _ _ _ _ c.lowest-l.ensures c.requires c.below.ensures c.below-2.ensures c.difference.ensures
