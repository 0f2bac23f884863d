-- `serve` meets its contract.
use Rattle.checker_pairs.proofs.Serving.{serving_start, serving_keeps, serving_fits, serving_broken, serving_next, serving_end}
use Rattle.checker_pairs.proofs.Emptying.{is_none, not_none}
use Rattle.checker_pairs.proofs.serve.Goals as goal

pub loop-b-init : goal.loop-b-init
loop-b-init c = serving_start _ _ _ _ _ _ _ _ _ _ _ _ _ _ c.requires

pub keep-requires : goal.keep-requires
keep-requires c =
    serving_keeps _ _ _ _ _ _ _ _ _ _ _ _ _ _ c.requires _ _ _ _ _ _ _ _ c.loop-b.invariant

pub empty-t-requires : goal.empty-t-requires
empty-t-requires c =
    serving_fits _ _ _ _ _ _ _ _ _ _ _ _ _ _
    c.requires _ _ _ _ _ _ _ _
    c.loop-b.invariant
    c.loop-b-test.true _
    c.keep.ensures

pub returns-then-is_some : goal.returns-then-is_some
returns-then-is_some c =
    serving_broken _ _ _ _ _ _ _ _ _ _ _ _ _ _
    c.requires _ _ _ _ _ _ _ _
    c.loop-b.invariant
    c.loop-b-test.true _
    c.keep.ensures _ _ _ _ _ _ _ c.empty-t.ensures
    (not_none _ c.if-is_some.ensures)

pub loop-b-preserved : goal.loop-b-preserved
loop-b-preserved c =
    serving_next _ _ _ _ _ _ _ _ _ _ _ _ _ _
    c.requires _ _ _ _ _ _ _ _
    c.loop-b.invariant
    c.loop-b-test.true _
    c.keep.ensures _ _ _ _ _ _ _ c.empty-t.ensures
    (is_none _ c.if-is_some.ensures)

pub returns : goal.returns
returns c = serving_end _ _ _ _ _ _ _ _ _ _ _ _ _ _ c.requires _ _ _ _ _ _ _ _ c.loop-b.invariant c.loop-b-test.false
