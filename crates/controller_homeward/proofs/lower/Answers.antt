-- `lower` is an intersection.
use native.Mathlib.Omega.{arith}
use Rattle.controller_homeward.proofs.Homeward.{lower_is}
use Rattle.controller_homeward.proofs.lower.Goals as goal

pub region_row-row-requires : goal.region_row-row-requires
region_row-row-requires c = let p = c.requires in (p.0, p.1, p.2)

pub below-requires : goal.below-requires
below-requires c = omega (arith, c.requires.3)

pub returns : goal.returns
returns c = lower_is _ _ _ _ _ _ c.region_row-row.ensures c.below.ensures c.intersection.ensures
