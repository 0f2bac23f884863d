-- `put_answer` meets its contract: the part of the buffer that it passes on is the front that was read.
use native.Mathlib.Omega.{arith}
use mathlib.Core.Path.{sym}
use lib.Seq.{length-take-le}
use Rattle.files.proofs.Fronts.{front_is, front_within}
use Rattle.solve.proofs.Printed.{printed_of}
use Rattle.solve.proofs.put_answer.Goals as goal

pub slice_bounds-file-end : goal.slice_bounds-file-end
slice_bounds-file-end c =
    omega (arith, front_within c.args.f c.bytes-file.ensures c.len-n.ensures c.requires)

pub slice_bounds-answer-end-2 : goal.slice_bounds-answer-end-2
slice_bounds-answer-end-2 c =
    sym (length-take-le _ c.bytes-file.result (omega (arith, front_within c.args.f c.bytes-file.ensures c.len-n.ensures c.requires)))

pub returns : goal.returns
returns c =
    printed_of (front_is c.args.f c.bytes-file.ensures c.len-n.ensures) c.answer.ensures
