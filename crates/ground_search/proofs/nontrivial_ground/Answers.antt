-- `nontrivial_ground`.
use native.Mathlib.Omega.{arith}
use Rattle.ground_search.proofs.Told.{told_by_way_out, none_lost}
use Rattle.ground_search.proofs.nontrivial_ground.Goals as goal

pub returns-then-j-g : goal.returns-then-j-g
returns-then-j-g c =
    let p = c.requires in
    told_by_way_out p.0 p.1 c.first_lost_exit-j.result c.first_lost_exit-j.ensures c.if-j-g.true

pub output_ground-requires : goal.output_ground-requires
output_ground-requires c =
    let p = c.requires in
    (p.0, p.1, none_lost _ _ c.first_lost_exit-j.ensures (omega arith))
