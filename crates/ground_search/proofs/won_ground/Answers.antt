-- `won_ground`.
use Rattle.ground_search.proofs.Told.{inside_yes, told_input_stuck, told_by_replies, told_at_home}
use Rattle.ground_search.proofs.won_ground.Goals as goal

pub returns-then-is_empty : goal.returns-then-is_empty
returns-then-is_empty c =
    told_input_stuck c.requires.0 c.requires.1 c.in_moves-moves.ensures c.is_empty.ensures c.if-is_empty.true

pub returns-then-not-member : goal.returns-then-not-member
returns-then-not-member c =
    told_by_replies c.requires.0 c.requires.1 c.in_moves-moves.ensures c.is_empty.ensures c.if-is_empty.false c.member.ensures c.if-not-member.true-raw

pub home-requires : goal.home-requires
home-requires c =
    (c.requires.0, inside_yes c.requires.0 c.member.ensures c.if-not-member.false-raw, c.requires.1)

pub returns : goal.returns
returns c =
    told_at_home c.requires.0 c.requires.1 c.in_moves-moves.ensures c.is_empty.ensures c.if-is_empty.false c.member.ensures c.if-not-member.false-raw
    c.home.result c.home.ensures
