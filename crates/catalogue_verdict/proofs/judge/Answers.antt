-- `judge` meets its contract.
use Rattle.text.proofs.OneText.{written_read}
use Rattle.catalogue_verdict.proofs.Counting.{judged_misshapen, judged_refused, judged_game}
use Rattle.catalogue_verdict.proofs.judge.Goals as goal

pub solve-requires : goal.solve-requires
solve-requires c = (written_read _ _ c.in-Ok.ensures).accepted

pub returns-in-Ok : goal.returns-in-Ok
returns-in-Ok c = (judged_game c.in-Ok.ensures c.solve.ensures.0, c.solve.ensures.1)

pub returns-in-Err-Misshapen : goal.returns-in-Err-Misshapen
returns-in-Err-Misshapen c = judged_misshapen (rw c.in-Err-Misshapen.field-0-is at c.in-Err-Misshapen.ensures)

pub returns-in-Err-Refused : goal.returns-in-Err-Refused
returns-in-Err-Refused c = judged_refused (rw c.in-Err-Refused.field-0-is at c.in-Err-Refused.ensures)
