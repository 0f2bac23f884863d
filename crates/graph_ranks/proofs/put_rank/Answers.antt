-- `put_rank` writes the lowest place that is left, until none is.
use Prim.Native.Nat.{◌+◌}
use native.Mathlib.Omega.{arith}
use Rattle.graph_ranks.proofs.Ranks.{putting_in, putting_next, putting_end}
use Rattle.graph_ranks.proofs.put_rank.Goals as goal

pub overflow_add-room : goal.overflow_add-room
overflow_add-room c =
    let w = c.in-Some.ensures.steps in
    let i = putting_in (◌+◌ _) _ _ _ _ _ _ c.loop-t.invariant c.requires (λ t u a b z. omega arith) w.some w.lowest in
    omega (arith, (c.requires _ i).1, c.loop-t.invariant.long)

pub offset_bounds-room-n : goal.offset_bounds-room-n
offset_bounds-room-n c =
    let w = c.in-Some.ensures.steps in
    let i = putting_in (◌+◌ _) _ _ _ _ _ _ c.loop-t.invariant c.requires (λ t u a b z. omega arith) w.some w.lowest in
    omega (arith, (c.requires _ i).1, c.loop-t.invariant.long)

pub bounds-room-n : goal.bounds-room-n
bounds-room-n c =
    let w = c.in-Some.ensures.steps in
    let i = putting_in (◌+◌ _) _ _ _ _ _ _ c.loop-t.invariant c.requires (λ t u a b z. omega arith) w.some w.lowest in
    omega (arith, (c.requires _ i).1, c.loop-t.invariant.long)

pub loop-t-preserved : goal.loop-t-preserved
loop-t-preserved c =
    let w = c.in-Some.ensures.steps in
    putting_next (◌+◌ _) _ _ _ _ _ _ c.loop-t.invariant c.requires (λ t u a b z. omega arith) w.some
    w.lowest _ w.others

pub returns : goal.returns
returns c = putting_end _ _ _ _ _ _ c.loop-t.invariant c.in-None.ensures.steps.0
