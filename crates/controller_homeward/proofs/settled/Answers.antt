-- `settled` collects the inputs whose lowest home in reach is d.
use Prim.Native.Nat.{ℕ}
use mathlib.Core.Path.{◌∙◌, ap}
use Rattle.bits.proofs.Visit.{collected_below, collected_next, cut_start, cut_end}
use Rattle.sets.specs.Words.{capacity, bits_of}
use Rattle.controller_homeward.specs.Homes.{lowest_is, settled_at}
use native.Mathlib.Omega.{arith}
use Rattle.controller_homeward.proofs.settled.Goals as goal

pub loop-j-init : goal.loop-j-init
loop-j-init c =
    let all = c.into_iter-j-iterator.ensures.into_iter_gives in
    rw (all, c.empty-x.ensures.1) (cut_start capacity _ _ _ _ c.below.ensures c.intersection-j-items.ensures _ (omega arith))

pub region_row-row-requires : goal.region_row-row-requires
region_row-row-requires c =
    let w = c.in-Some.ensures.steps in
    let p = c.requires in
    let below = collected_below capacity _ _ _ _ _ c.loop-j.invariant w.some _ w.lowest in
    (p.0, below, p.1)

pub insert_if-x-requires : goal.insert_if-x-requires
insert_if-x-requires c =
    let w = c.in-Some.ensures.steps in
    let p = c.requires in
    omega (arith, p.0, collected_below capacity _ _ _ _ _ c.loop-j.invariant w.some _ w.lowest)

pub loop-j-preserved : goal.loop-j-preserved
loop-j-preserved c =
    let w = c.in-Some.ensures.steps in
    let a = c.args in
    let test = c.home_is.ensures ∙ ap (λ (x : ℕ). lowest_is x (bits_of a.reach.0) a.d.0) c.region_row-row.ensures in
    collected_next capacity _ _ _ _ _ c.loop-j.invariant w.some _ w.lowest _ w.others test c.insert_if-x.ensures

pub returns : goal.returns
unfolding settled_at
returns c =
    let all = c.into_iter-j-iterator.ensures.into_iter_gives in
    cut_end capacity _ _ _ _ c.below.ensures c.intersection-j-items.ensures _ _ _ (rw all at c.loop-j.invariant) c.in-None.ensures.steps.0
