-- `lost_ground`.
use Rattle.ground_search.proofs.Told.{told_output_stuck, told_unanswered, staying}
use Rattle.ground_search.proofs.lost_ground.Goals as goal

pub returns-then-is_empty : goal.returns-then-is_empty
returns-then-is_empty c =
    let p = c.requires in
    told_output_stuck p.0 p.1 c.out_moves-moves.ensures c.is_empty.ensures c.if-is_empty.true

pub returns-then-not-member : goal.returns-then-not-member
returns-then-not-member c =
    let p = c.requires in
    told_unanswered p.0 p.1 c.out_moves-moves.ensures c.is_empty.ensures c.if-is_empty.false c.member.ensures c.if-not-member.true-raw
    c.first_unreplied.result c.first_unreplied.ensures

pub nontrivial_ground-requires : goal.nontrivial_ground-requires
nontrivial_ground-requires c =
    let p = c.requires in
    (p.0, staying p.0 p.1 c.out_moves-moves.ensures c.is_empty.ensures c.if-is_empty.false c.member.ensures c.if-not-member.false-raw)
