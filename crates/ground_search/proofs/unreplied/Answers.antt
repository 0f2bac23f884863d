-- `unreplied`.
use Rattle.ground_search.proofs.Meaning.{unreplied_yes, unreplied_no}
use Rattle.ground_search.proofs.unreplied.Goals as goal

pub returns-then-member : goal.returns-then-member
returns-then-member c =
    unreplied_yes c.requires.0 c.args.j c.in_moves-moves.ensures c.member.ensures c.if-member.true c.answered.ensures

pub returns : goal.returns
returns c =
    unreplied_no c.requires.0 c.args.j c.in_moves-moves.ensures c.member.ensures c.if-member.false
