-- `pruned`. Invariant: no state that is together with s has been dropped. Of the states of `near` that are left it says that they are below n.
use mathlib.Core.Path.{refl, sym, ◌∙◌}
use mathlib.Core.Bool.{true}
use Rattle.finite.proofs.Truth.{and_left}
use Rattle.bits.proofs.Passing.{passing_whole, passing_below, passing_next}
use Rattle.sets.specs.Words.{capacity, sets_in}
use Rattle.graph_components.proofs.Pruning.{pruned_start, pruned_next}
use native.Mathlib.Omega.{arith}
use Rattle.graph_components.proofs.pruned.Goals as goal

pub loop-t-init : goal.loop-t-init
loop-t-init c =
    let all = c.into_iter-t-iterator.ensures.into_iter_gives in
    let P = pruned_start (sets_in c.args.rows.now) c.args.n c.args.s _ _ _ c.row.ensures c.below.ensures
    c.intersection-x.ensures in
    rw all ((P, passing_whole capacity _ _ (λ _. true) c.requires.0 (λ t h. (P.inside t (and_left _ _ (sym (c.intersection-t-items.ensures t) ∙ h))).0)))

pub row-row-requires : goal.row-row-requires
row-row-requires c =
    let w = c.in-Some.ensures.steps in
    let below = passing_below capacity _ _ (λ _. true) _ c.loop-t.invariant.1 w.some _ w.lowest in
    omega (arith, below)

pub loop-t-preserved : goal.loop-t-preserved
loop-t-preserved c =
    let w = c.in-Some.ensures.steps in
    let below = passing_below capacity _ _ (λ _. true) _ c.loop-t.invariant.1 w.some _ w.lowest in
    let read = c.row-row.ensures in (
      pruned_next _ _ c.args.s c.requires.3 c.requires.1 _ _ _ _ c.loop-t.invariant.0 (below) read c.spared-x.ensures,
      passing_next capacity _ _ (λ _. true) _ c.loop-t.invariant.1 w.some _ w.lowest _
          w.others refl,
    )

pub returns : goal.returns
returns c = c.loop-t.invariant.0
