-- `owed`.
use Rattle.ground_search.proofs.Requirements.{owed_yes, owed_no}
use Rattle.ground_search.proofs.owed.Goals as goal

pub returns-then-due : goal.returns-then-due
returns-then-due c =
    owed_yes c.args.g _ _ c.args.r c.due.ensures c.if-due.true c.first_missed.ensures

pub returns : goal.returns
returns c =
    owed_no c.args.g _ _ c.args.r c.due.ensures c.if-due.false
