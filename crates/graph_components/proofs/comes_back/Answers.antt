-- `comes_back` tests the lowest state that is left, until one is together with s.
use mathlib.Core.Path.{sym, ◌∙◌, ap₂}
use mathlib.Core.Bool.{◌&&◌}
use Prim.Native.Nat.{ℕ}
use native.Mathlib.Omega.{arith}
use Rattle.bits.specs.Member.{has}
use Rattle.bits.proofs.Passing.{passing_member, passing_next}
use Rattle.sets.specs.Words.{capacity, sets_in}
use Rattle.graph_components.proofs.Steps.{together_at, apart_at, back_below, back_found, back_none}
use Rattle.graph_components.proofs.comes_back.Goals as goal

pub row-requires : goal.row-requires
row-requires c =
    let all = c.into_iter-t-iterator.ensures.into_iter_gives in
    let w = c.in-Some.ensures.steps in
    let inside = passing_member capacity _ _ _ _ (rw all at c.loop-t.invariant) w.some _ w.lowest in
    let below = back_below (sets_in c.args.rows.now) _ c.args.s _ _ _ c.below.ensures
    c.intersection-t-items.ensures _ (inside) in
    omega (arith, below)

pub both_ways-requires : goal.both_ways-requires
both_ways-requires c =
    let all = c.into_iter-t-iterator.ensures.into_iter_gives in
    let w = c.in-Some.ensures.steps in
    let inside = passing_member capacity _ _ _ _ (rw all at c.loop-t.invariant) w.some _ w.lowest in
    let below = back_below (sets_in c.args.rows.now) _ c.args.s _ _ _ c.below.ensures
    c.intersection-t-items.ensures _ (inside) in
    omega (arith, below)

pub returns-then-both_ways : goal.returns-then-both_ways
returns-then-both_ways c =
    let all = c.into_iter-t-iterator.ensures.into_iter_gives in
    let w = c.in-Some.ensures.steps in
    let inside = passing_member capacity _ _ _ _ (rw all at c.loop-t.invariant) w.some _ w.lowest in
    let met = c.both_ways.ensures ∙ ap₂ (λ (x y : ℕ). has x c.in-Some.t && has y c.args.s) c.row-row.ensures c.row.ensures in
    back_found (sets_in c.args.rows.now) _ c.args.s _ _ _ c.below.ensures c.intersection-t-items.ensures c.requires.0 _ (inside)
    (sym (together_at _ _ c.in-Some.t (met)) ∙ c.if-both_ways.true)

pub loop-t-preserved : goal.loop-t-preserved
loop-t-preserved c =
    let w = c.in-Some.ensures.steps in
    let met = c.both_ways.ensures ∙ ap₂ (λ (x y : ℕ). has x c.in-Some.t && has y c.args.s) c.row-row.ensures c.row.ensures in
    passing_next capacity _ _ _ _ c.loop-t.invariant w.some _ w.lowest _ w.others
    (apart_at _ _ c.in-Some.t (met) c.if-both_ways.false)

pub returns : goal.returns
returns c =
    let all = c.into_iter-t-iterator.ensures.into_iter_gives in
    back_none (sets_in c.args.rows.now) _ c.args.s _ _ _ c.below.ensures c.intersection-t-items.ensures _ (rw all at c.loop-t.invariant)
    c.in-None.ensures.steps.0
