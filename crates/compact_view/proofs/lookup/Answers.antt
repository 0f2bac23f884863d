-- `lookup` reads the rank, then the entry of that rank.
use native.Mathlib.Omega.{arith}
use Rattle.finite.proofs.Loops.{failed, passed}
use Rattle.view.proofs.Range.{range_bounds}
use mathlib.Core.Path.{◌∙◌}
use Rattle.compact_view.proofs.Rows.{cell_small, none_range, none_components, none_rank, read_rank}
use Rattle.compact_view.proofs.lookup.Goals as goal

pub returns-then-not-in_range : goal.returns-then-not-in_range
returns-then-not-in_range c = none_range _ _ _ _ _ _ _ (failed c.in_range.ensures c.if-not-in_range.true-raw)

pub returns-then-components-inputs : goal.returns-then-components-inputs
returns-then-components-inputs c = none_components _ _ _ _ _ _ _ (passed c.in_range.ensures c.if-not-in_range.false-raw) c.if-components-inputs.true

pub overflow_add-inputs : goal.overflow_add-inputs
overflow_add-inputs c = omega (arith, range_bounds _ _ _ _ _ (passed c.in_range.ensures c.if-not-in_range.false-raw))

pub returns-then-c-components : goal.returns-then-c-components
returns-then-c-components c =
    none_rank _ _ _ _ _ _ _ (passed c.in_range.ensures c.if-not-in_range.false-raw) c.if-components-inputs.false (c.from-c.ensures ∙ c.entry.ensures)
    c.if-c-components.true

pub overflow_mul-o : goal.overflow_mul-o
overflow_mul-o c =
    omega (arith, range_bounds _ _ _ _ _ (passed c.in_range.ensures c.if-not-in_range.false-raw))

pub overflow_add-o : goal.overflow_add-o
overflow_add-o c =
    let t = passed c.in_range.ensures c.if-not-in_range.false-raw in
    omega (arith, range_bounds _ _ _ _ _ t, cell_small _ _ _ _ _ _ t c.if-components-inputs.false, c.if-c-components.false)

pub overflow_mul-o-2 : goal.overflow_mul-o-2
overflow_mul-o-2 c =
    let t = passed c.in_range.ensures c.if-not-in_range.false-raw in
    omega (arith, range_bounds _ _ _ _ _ t, cell_small _ _ _ _ _ _ t c.if-components-inputs.false, c.if-c-components.false)

pub overflow_add-o-2 : goal.overflow_add-o-2
overflow_add-o-2 c =
    let t = passed c.in_range.ensures c.if-not-in_range.false-raw in
    omega (arith, range_bounds _ _ _ _ _ t, cell_small _ _ _ _ _ _ t c.if-components-inputs.false, c.if-c-components.false)

pub overflow_add-inputs-2 : goal.overflow_add-inputs-2
overflow_add-inputs-2 c =
    let t = passed c.in_range.ensures c.if-not-in_range.false-raw in
    omega (arith, range_bounds _ _ _ _ _ t, cell_small _ _ _ _ _ _ t c.if-components-inputs.false, c.if-c-components.false)

pub overflow_add-inputs-3 : goal.overflow_add-inputs-3
overflow_add-inputs-3 c =
    let t = passed c.in_range.ensures c.if-not-in_range.false-raw in
    omega (arith, range_bounds _ _ _ _ _ t, cell_small _ _ _ _ _ _ t c.if-components-inputs.false, c.if-c-components.false)

pub returns : goal.returns
returns c =
    read_rank _ _ _ _ _ _ _ (passed c.in_range.ensures c.if-not-in_range.false-raw) c.if-components-inputs.false (c.from-c.ensures ∙ c.entry.ensures)
    c.if-c-components.false c.entry-2.ensures
