-- `settling` collects the inputs with a home in reach.
use Prim.Native.Nat.{ℕ}
use mathlib.Core.Path.{◌∙◌, ap}
use Rattle.bits.specs.Member.{sets_meet}
use Rattle.bits.proofs.Visit.{collected_below, collected_next, cut_start, cut_end}
use Rattle.sets.specs.Words.{capacity, bits_of}
use Rattle.controller_rows.specs.Writes.{settles_at}
use native.Mathlib.Omega.{arith}
use Rattle.controller_opening.proofs.unsettled.settling.Goals as goal

pub loop-j-init : goal.loop-j-init
loop-j-init c =
    let all = c.into_iter-j-iterator.ensures.into_iter_gives in
    rw (all, c.empty-y.ensures.1) (cut_start capacity _ _ _ _ c.below.ensures c.intersection-j-items.ensures _ (omega arith))

pub region_row-row-requires : goal.region_row-row-requires
region_row-row-requires c =
    let w = c.in-Some.ensures.steps in
    let p = c.requires in
    let below = collected_below capacity _ _ _ _ _ c.loop-j.invariant w.some _ w.lowest in
    (p.0, below, p.1)

pub insert_if-y-requires : goal.insert_if-y-requires
insert_if-y-requires c =
    let w = c.in-Some.ensures.steps in
    let p = c.requires in
    omega (arith, p.0, collected_below capacity _ _ _ _ _ c.loop-j.invariant w.some _ w.lowest)

pub loop-j-preserved : goal.loop-j-preserved
loop-j-preserved c =
    let w = c.in-Some.ensures.steps in
    let a = c.args in
    let test = c.meets.ensures ∙ ap (λ (x : ℕ). sets_meet capacity x (bits_of a.reach.0)) c.region_row-row.ensures in
    collected_next capacity _ _ _ _ _ c.loop-j.invariant w.some _ w.lowest _ w.others test c.insert_if-y.ensures

pub returns : goal.returns
unfolding settles_at
returns c =
    let all = c.into_iter-j-iterator.ensures.into_iter_gives in
    cut_end capacity _ _ _ _ c.below.ensures c.intersection-j-items.ensures _ _ _ (rw all at c.loop-j.invariant) c.in-None.ensures.steps.0
