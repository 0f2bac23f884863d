-- `admitted` drops what a requirement that is due does not admit.
use Rattle.region_dues.proofs.Steps.{kept_due, kept_free}
use Rattle.region_dues.proofs.admitted.Goals as goal

pub returns-then-due : goal.returns-then-due
returns-then-due c = kept_due _ _ _ c.if-due.true c.intersection.ensures

pub returns : goal.returns
returns c = kept_free _ _ c.if-due.false
