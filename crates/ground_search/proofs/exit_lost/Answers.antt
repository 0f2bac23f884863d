-- `exit_lost`.
use Rattle.ground_search.proofs.Meaning.{exit_yes, exit_no}
use Rattle.ground_search.proofs.exit_lost.Goals as goal

pub returns-then-member : goal.returns-then-member
returns-then-member c =
    exit_yes c.requires.0 c.args.j c.requires.1 c.member.ensures c.requires.2 c.if-member.true c.won.ensures

pub returns : goal.returns
returns c =
    exit_no c.requires.0 c.args.j c.requires.1 c.member.ensures c.if-member.false
