-- `judge_front` meets its contract: the part of the buffer that it passes on is the front that was read.
use native.Mathlib.Omega.{arith}
use mathlib.Core.Path.{sym}
use lib.Seq.{length-take-le}
use Rattle.files.proofs.Fronts.{front_is, front_within}
use Rattle.catalogue.proofs.Names.{not_whole, from_front}
use Rattle.catalogue.proofs.judge_front.Goals as goal

pub returns-then-not-read_whole : goal.returns-then-not-read_whole
returns-then-not-read_whole c = not_whole _ c.read_whole.ensures c.if-not-read_whole.true

pub slice_bounds-file-end : goal.slice_bounds-file-end
slice_bounds-file-end c =
    omega (arith, front_within c.args.f c.bytes-file.ensures c.len-n.ensures c.requires)

pub slice_bounds-judge-end : goal.slice_bounds-judge-end
slice_bounds-judge-end c =
    sym (length-take-le _ c.bytes-file.result (omega (arith, front_within c.args.f c.bytes-file.ensures c.len-n.ensures c.requires)))

pub returns : goal.returns
returns c =
    from_front _ c.read_whole.ensures c.if-not-read_whole.false (front_is c.args.f c.bytes-file.ensures c.len-n.ensures) c.judge.ensures
