-- `judge` meets its contract.
use Rattle.checker_pairs.proofs.Serving.{judging_start, judging_place, judging_fits, judging_broken, judging_next, judging_end}
use Rattle.checker_pairs.proofs.judge.Goals as goal

pub loop-r-init : goal.loop-r-init
loop-r-init c = judging_start _ _ _ _ _ _ _ _ c.requires

pub bounds-g-r : goal.bounds-g-r
bounds-g-r c = judging_place _ _ _ _ _ _ _ _ c.requires _ _ _ _ _ _ _ _ c.loop-r.invariant c.loop-r-test.true

pub serve-t-requires : goal.serve-t-requires
serve-t-requires c =
    judging_fits _ _ _ _ _ _ _ _ c.requires _ _ _ _ _ _ _ _
    c.loop-r.invariant
    c.loop-r-test.true

pub returns-in-Some : goal.returns-in-Some
returns-in-Some c =
    judging_broken _ _ _ _ _ _ _ _
    c.requires _ _ _ _ _ _ _ _
    c.loop-r.invariant
    c.loop-r-test.true _ _ _ _ _ _ _
    c.serve-t.ensures _ c.in-Some.is

pub loop-r-preserved : goal.loop-r-preserved
loop-r-preserved c =
    judging_next _ _ _ _ _ _ _ _
    c.requires _ _ _ _ _ _ _ _
    c.loop-r.invariant
    c.loop-r-test.true _ _ _ _ _ _ _
    c.serve-t.ensures c.in_default.is

pub returns : goal.returns
returns c = judging_end _ _ _ _ _ _ _ _ c.requires _ _ _ _ _ _ _ _ c.loop-r.invariant c.loop-r-test.false
