-- `in_range` tests the dimensions, then the numbers.
use Rattle.view.proofs.Range.{many_inputs, many_counters, output_past, counter_past, input_last}
use Rattle.view.proofs.in_range.Goals as goal

pub returns-then-inputs-gt-CAPACITY : goal.returns-then-inputs-gt-CAPACITY
returns-then-inputs-gt-CAPACITY c = many_inputs _ _ _ _ _ c.if-inputs-gt-CAPACITY.true

pub returns-then-counters-gt32 : goal.returns-then-counters-gt32
returns-then-counters-gt32 c = many_counters _ _ _ _ _ c.if-inputs-gt-CAPACITY.false c.if-counters-gt32.true

pub returns-then-at-ge-CAPACITY : goal.returns-then-at-ge-CAPACITY
returns-then-at-ge-CAPACITY c =
    output_past _ _ _ _ _ c.if-inputs-gt-CAPACITY.false c.if-counters-gt32.false c.if-at-ge-CAPACITY.true

pub returns-then-at-counters : goal.returns-then-at-counters
returns-then-at-counters c =
    counter_past _ _ _ _ _ c.if-inputs-gt-CAPACITY.false c.if-counters-gt32.false c.if-at-ge-CAPACITY.false c.if-at-counters.true

pub returns : goal.returns
returns c =
    input_last _ _ _ _ _ c.if-inputs-gt-CAPACITY.false c.if-counters-gt32.false c.if-at-ge-CAPACITY.false c.if-at-counters.false
