-- `list_of`. Invariant: the sets and counts of the requirements below r are listed.
use mathlib.Core.Path.{refl, ◌∙◌}
use native.Mathlib.Omega.{arith}
use lib.ListN.{length-set}
use Rattle.game_sets.proofs.Listing.{upto_none, upto_next, upto_all, counts_none, counts_next, counts_all}
use Rattle.game_sets.proofs.list_of.Goals as goal

pub loop-r-init : goal.loop-r-init
loop-r-init c = (omega arith, refl, refl, refl, upto_none _ _, counts_none _ _ _)

pub loop-r-preserved : goal.loop-r-preserved
loop-r-preserved c =
    let i = c.loop-r.invariant in (
      omega arith,
      c.put.ensures.long ∙ i.1,
      length-set c.loop-r.assumed c.loop-r.r _ ∙ i.2,
      length-set c.loop-r.guaranteed c.loop-r.r _ ∙ i.3,
      upto_next _ c.loop-r.r _ _ (omega arith) i.4 c.put.ensures,
      counts_next _ c.loop-r.r _ _ (omega (arith, i.2)) (omega (arith, i.3)) i.5,
    )

pub returns : goal.returns
returns c =
    let l = c.loop-r in
    (upto_all _ l.r _ l.invariant.1 (omega arith) l.invariant.4, counts_all _ l.r _ _ (omega arith) l.invariant.5)
