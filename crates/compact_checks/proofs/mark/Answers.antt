-- `mark` names the lowest input that is left, until none is.
use Prim.Native.Nat.{◌-◌}
use native.Mathlib.Omega.{arith}
use Rattle.graph_ranks.proofs.Ranks.{putting_in, putting_next}
use Rattle.compact_checks.proofs.Parts.{part_in, part_same, marking_apart, marking_fits, marking_end}
use Rattle.compact_checks.proofs.mark.Goals as goal

pub overflow_add-part : goal.overflow_add-part
overflow_add-part c = omega (arith, c.requires.1)

pub below-requires : goal.below-requires
below-requires c = omega (arith, c.requires.1)

pub below-requires-2 : goal.below-requires-2
below-requires-2 c = omega (arith, c.requires.1)

pub overflow_sub-firsts : goal.overflow_sub-firsts
overflow_sub-firsts c =
    let all = c.into_iter-t-iterator.ensures.into_iter_gives in
    let w = c.in-Some.ensures.steps in
    -- what is to be named lies in the part
    let in_part = part_in _ _ _ _ _ _ _ c.below.ensures c.intersection-low.ensures c.below-2.ensures c.difference-t-items.ensures in
    let in_room = marking_fits _ _ _ in_part c.args.firsts.now c.requires.1 (omega (arith, c.requires.0, c.requires.2)) in
    let named = putting_in (λ t. t - _) _ _ _ _ _ _ (rw all at c.loop-t.invariant) in_room (marking_apart _ _ _ in_part) w.some w.lowest in
    (in_part _ named).0

pub bounds-firsts-t : goal.bounds-firsts-t
bounds-firsts-t c =
    let all = c.into_iter-t-iterator.ensures.into_iter_gives in
    let w = c.in-Some.ensures.steps in
    -- what is to be named lies in the part
    let in_part = part_in _ _ _ _ _ _ _ c.below.ensures c.intersection-low.ensures c.below-2.ensures c.difference-t-items.ensures in
    let in_room = marking_fits _ _ _ in_part c.args.firsts.now c.requires.1 (omega (arith, c.requires.0, c.requires.2)) in
    let named = putting_in (λ t. t - _) _ _ _ _ _ _ (rw all at c.loop-t.invariant) in_room (marking_apart _ _ _ in_part) w.some w.lowest in
    omega (arith, (in_room _ named).1, c.requires.2)

pub loop-t-preserved : goal.loop-t-preserved
loop-t-preserved c =
    let all = c.into_iter-t-iterator.ensures.into_iter_gives in
    let w = c.in-Some.ensures.steps in
    -- what is to be named lies in the part
    let in_part = part_in _ _ _ _ _ _ _ c.below.ensures c.intersection-low.ensures c.below-2.ensures c.difference-t-items.ensures in
    let in_room = marking_fits _ _ _ in_part c.args.firsts.now c.requires.1 (omega (arith, c.requires.0, c.requires.2)) in
    rw all (putting_next (λ t. t - _) _ _ _ _ _ _ (rw all at c.loop-t.invariant) in_room (marking_apart _ _ _ in_part) w.some w.lowest _ w.others)

pub returns : goal.returns
returns c =
    let all = c.into_iter-t-iterator.ensures.into_iter_gives in
    -- what is to be named lies in the part
    let in_part = part_in _ _ _ _ _ _ _ c.below.ensures c.intersection-low.ensures c.below-2.ensures c.difference-t-items.ensures in
    marking_end _ _ _ in_part _ _ _ _ _
    (part_same _ _ _ _ _ _ _ c.below.ensures c.intersection-low.ensures c.below-2.ensures c.difference-t-items.ensures)
    (rw all at c.loop-t.invariant) c.in-None.ensures.steps.0
