-- `guarantees_of` reads the four places.
use Prim.Native.Nat.{◌<◌}
use mathlib.Core.Path.{◌∙◌}
use native.Mathlib.Omega.{arith}
use Rattle.table_sizes.specs.Below.{guarantee_side}
use Rattle.table_sizes.proofs.Numbered.{sets_of_lem}
use Rattle.table_sizes.proofs.guarantees_of.Goals as goal

pub returns : goal.returns
unfolding guarantee_side
returns c =
    let p = c.requires in
    let b : c.args.r < 8 = omega (arith, p.0, p.1) in
    let L = p.3 in
    sets_of_lem guarantee_side _ _ _ _ _ _ _ (p.2.counts.guaranteed.at _ b) (c.guarantee-a.ensures ∙ L.guaranteed _ 0 b (omega arith))
    (c.guarantee-b.ensures ∙ L.guaranteed _ 1 b (omega arith)) (c.guarantee-c.ensures ∙ L.guaranteed _ 2 b (omega arith))
    (c.guarantee-d.ensures ∙ L.guaranteed _ 3 b (omega arith))
