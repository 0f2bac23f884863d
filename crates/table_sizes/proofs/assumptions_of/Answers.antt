-- `assumptions_of` reads the four places.
use Prim.Native.Nat.{◌<◌}
use mathlib.Core.Path.{◌∙◌}
use native.Mathlib.Omega.{arith}
use Rattle.table_sizes.specs.Below.{assumption_side}
use Rattle.table_sizes.proofs.Numbered.{sets_of_lem}
use Rattle.table_sizes.proofs.assumptions_of.Goals as goal

pub returns : goal.returns
unfolding assumption_side
returns c =
    let p = c.requires in
    let b : c.args.r < 8 = omega (arith, p.0, p.1) in
    let L = p.3 in
    sets_of_lem assumption_side _ _ _ _ _ _ _ (p.2.counts.assumed.at _ b) (c.assumption-a.ensures ∙ L.assumed _ 0 b (omega arith))
    (c.assumption-b.ensures ∙ L.assumed _ 1 b (omega arith)) (c.assumption-c.ensures ∙ L.assumed _ 2 b (omega arith))
    (c.assumption-d.ensures ∙ L.assumed _ 3 b (omega arith))
