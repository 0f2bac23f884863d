-- `answering`.
use native.Mathlib.Omega.{arith}
use Rattle.bits.specs.Member.{has}
use Rattle.sets.specs.Words.{sets_in}
use Prim.Native.Nat.{ℕ}
use mathlib.Core.Path.{◌∙◌, ap}
use Rattle.finite.proofs.Truth.{clash}
use Rattle.bits.proofs.Membership.{has_zero_lem}
use Rattle.barred_grow.proofs.Rows.{cut_low, lowest_low, rest_low, answered_next}
use Rattle.barred_grow.proofs.answering.Goals as goal

pub loop-o-init : goal.loop-o-init
loop-o-init c =
    let all = c.into_iter-o-iterator.ensures.into_iter_gives in
    rw all ((λ o h. clash h (ap (λ (k : ℕ). has k o) c.empty-c.ensures.1 ∙ has_zero_lem o), cut_low _ _ _ _ c.below.ensures c.intersection-o-items.ensures))

pub row_of-requires : goal.row_of-requires
row_of-requires c =
    let w = c.in-Some.ensures.steps in
    let low = lowest_low _ _ c.requires c.loop-o.invariant.1 w.some _ w.lowest in
    omega (arith, c.requires, low)

pub insert_if-c-requires : goal.insert_if-c-requires
insert_if-c-requires c =
    let w = c.in-Some.ensures.steps in
    let low = lowest_low _ _ c.requires c.loop-o.invariant.1 w.some _ w.lowest in
    omega (arith, c.requires, low)

pub loop-o-preserved : goal.loop-o-preserved
loop-o-preserved c =
    let w = c.in-Some.ensures.steps in (
      answered_next (sets_in c.args.moves.now) _ _ _ c.in-Some.o _ c.loop-o.invariant.0 c.row_of.ensures.1 c.meets.ensures c.insert_if-c.ensures,
      rest_low _ _ c.requires c.loop-o.invariant.1 w.some _ w.lowest _ w.others,
    )

pub returns : goal.returns
returns c =
    c.loop-o.invariant.0
