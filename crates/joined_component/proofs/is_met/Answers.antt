-- `is_met`.
use Rattle.joined_component.proofs.Tests.{met_due, met_free}
use Rattle.joined_component.proofs.is_met.Goals as goal

pub returns-then-is_due : goal.returns-then-is_due
returns-then-is_due c = met_due _ _ _ _ c.is_due.ensures c.if-is_due.true c.is_served.ensures

pub returns : goal.returns
returns c = met_free _ _ _ _ c.is_due.ensures c.if-is_due.false
