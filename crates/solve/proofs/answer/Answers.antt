-- `answer` meets its contract.
use native.Mathlib.Omega.{arith}
use Rattle.text.proofs.OneText.{written_read}
use Rattle.solve.proofs.Printed.{answers_game, answers_misshapen, answers_refused}
use Rattle.solve.proofs.answer.Goals as goal

pub solve-requires : goal.solve-requires
solve-requires c = (written_read _ _ c.in-Ok.ensures).accepted

pub returns-in-Ok : goal.returns-in-Ok
returns-in-Ok c = answers_game c.requires _ c.in-Ok.ensures c.solve.ensures

pub returns-in-Err-Misshapen : goal.returns-in-Err-Misshapen
returns-in-Err-Misshapen c =
    answers_misshapen c.requires c.in-Err-Misshapen.ensures _ c.in-Err-Misshapen.field-0-is (grind arith) c.put_misshapen.ensures

pub returns-in-Err-Refused : goal.returns-in-Err-Refused
returns-in-Err-Refused c =
    answers_refused c.requires c.in-Err-Refused.ensures _ c.in-Err-Refused.field-0-is c.from.ensures c.from.type_inv c.put_refused.ensures
