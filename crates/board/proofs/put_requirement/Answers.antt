-- `put_requirement`. Invariant: the first j sets of each side are written.
use mathlib.Core.Path.{◌∙◌, sym}
use native.Mathlib.Omega.{arith}
use lib.ListN.{length-map}
use Rattle.board.proofs.Laying.{sets_none, sets_next, requirement_put}
use Rattle.board.proofs.put_requirement.Goals as goal

pub loop-j-init : goal.loop-j-init
loop-j-init c = (omega arith, sets_none _ _ _)

pub put_set-requires : goal.put_set-requires
put_set-requires c =
    (omega (arith, c.requires.0), c.loop-j.invariant.1.long ∙ c.requires.1)

pub put_set-requires-in-loop-j : goal.put_set-requires-in-loop-j
put_set-requires-in-loop-j c =
    (omega (arith, c.requires.0), c.put_set.ensures.long ∙ c.loop-j.invariant.1.long ∙ c.requires.1)

pub loop-j-preserved : goal.loop-j-preserved
loop-j-preserved c =
    (omega arith, sets_next _ _ _ c.loop-j.j _ _ _ (omega arith) c.loop-j.invariant.1 c.put_set.ensures c.put_set-in-loop-j.ensures)

pub returns : goal.returns
returns c =
    let fields = c.well_formed.1.1.0.1.1 in
    requirement_put _ c.args.q _ _ c.requires.0 c.requires.1 c.loop-j.j (omega arith) c.loop-j.invariant.1
    (fields.0.1.0.1) (fields.1.1.0.1.0.1)
