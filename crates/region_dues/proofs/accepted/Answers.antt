-- `accepted` goes through the first four requirements, then through the others.
use native.Mathlib.Omega.{arith}
use Rattle.region_dues.proofs.Halves.{half_room, few_sets_lem, accepted_both}
use Rattle.region_dues.proofs.accepted.Goals as goal

pub narrow-y-requires : goal.narrow-y-requires
narrow-y-requires g c =
    let known = rw (← c.requires.0) at c.requires.1 in
    let p = known in
    let H = c.first_four-few.ensures in
    (omega (arith, H.most), few_sets_lem _ _ p.0, half_room _ _ p.1.first H.most)

pub narrow-requires : goal.narrow-requires
narrow-requires g c =
    let known = rw (← c.requires.0) at c.requires.1 in
    let p = known in
    let H = c.first_four-few.ensures in
    (omega (arith, H.others), few_sets_lem _ _ p.0, half_room _ _ p.1.second (omega (arith, H.others)))

pub returns : goal.returns
returns g c =
    let known = rw (← c.requires.0) at c.requires.1 in
    rw (← c.requires.0) (
    let p = known in
    accepted_both _ _ p.0 c.first_four-few.ensures _ _ _ _ _ _ c.narrow-y.ensures c.narrow.ensures)
