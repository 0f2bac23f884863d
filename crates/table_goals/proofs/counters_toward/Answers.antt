-- `counters_toward`: where a is a goal, its counters as a set.
use native.Mathlib.Omega.{arith}
use mathlib.Core.Path.{sym, ◌∙◌}
use Rattle.finite.proofs.Truth.{not_true, not_false}
use Rattle.sets.proofs.Rows.{is_none, is_some}
use Rattle.table_goals.proofs.Aims.{aimed_none, aimed_past, aimed_after, aimed_round}
use Rattle.table_goals.proofs.counters_toward.Goals as goal

pub returns-then-a-count : goal.returns-then-a-count
returns-then-a-count c = c.empty.ensures ∙ aimed_past _ _ _ c.requires c.if-a-count.true

pub member-requires : goal.member-requires
member-requires c = omega (arith, c.requires.few)

pub returns-then-not-member : goal.returns-then-not-member
returns-then-not-member c =
    c.empty-then-not-member.ensures ∙ aimed_none _ _ _ c.requires (sym c.member.ensures ∙ not_true _ c.if-not-member.true-raw)

pub overflow_add-a : goal.overflow_add-a
overflow_add-a c = omega (arith, c.requires.few, c.if-a-count.false)

pub below-upto-requires : goal.below-upto-requires
below-upto-requires c = omega (arith, c.requires.few, c.if-a-count.false)

pub below-requires : goal.below-requires
below-requires c = omega (arith, c.requires.few, c.if-a-count.false)

pub below-requires-then-not-is_empty : goal.below-requires-then-not-is_empty
below-requires-then-not-is_empty c = c.past.ensures.few

pub returns-then-not-is_empty : goal.returns-then-not-is_empty
returns-then-not-is_empty c =
    let i = sym c.member.ensures ∙ not_false _ c.if-not-member.false-raw in
    aimed_after _ _ _ c.requires _ _ _ _ i c.below-upto.ensures c.below.ensures c.intersection-earlier.ensures _ _
    (is_some _ c.is_empty.ensures c.if-not-is_empty.true-raw) c.past.ensures c.below-then-not-is_empty.ensures c.difference.ensures

pub below-requires-2 : goal.below-requires-2
below-requires-2 c =
    c.requires.few

pub below-requires-3 : goal.below-requires-3
below-requires-3 c = c.past-2.ensures.few

pub returns : goal.returns
returns c =
    let i = sym c.member.ensures ∙ not_false _ c.if-not-member.false-raw in
    aimed_round _ _ _ c.requires _ _ _ _ i c.below-upto.ensures c.below.ensures c.intersection-earlier.ensures _ _ _ _
    (is_none _ c.is_empty.ensures c.if-not-is_empty.false-raw) c.past-2.ensures c.below-3.ensures
    c.below-2.ensures c.difference-round.ensures c.union.ensures
