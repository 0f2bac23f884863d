-- `exits` visits the members of c.
use Rattle.bits.proofs.Visit.{within_start, collected_small, collected_next, collected_end}
use Rattle.sets.specs.Words.{capacity, sets_in}
use Rattle.environment_table.proofs.Outward.{exits_at_lem, exit_at}
use Rattle.environment_escape.proofs.exits.Goals as goal

pub loop-k-init : goal.loop-k-init
loop-k-init c =
    let all = c.into_iter-k-iterator.ensures.into_iter_gives in
    let p = c.requires in
    rw (all, c.empty-x.ensures.1) (within_start capacity _ _ _ p.0 p.1)

pub row_of-row-requires : goal.row_of-row-requires
row_of-row-requires c =
    let w = c.in-Some.ensures.steps in
    collected_small capacity _ _ _ _ _ c.loop-k.invariant w.some _ w.lowest

pub insert_if-x-requires : goal.insert_if-x-requires
insert_if-x-requires c =
    let w = c.in-Some.ensures.steps in
    collected_small capacity _ _ _ _ _ c.loop-k.invariant w.some _ w.lowest

pub loop-k-preserved : goal.loop-k-preserved
loop-k-preserved c =
    let w = c.in-Some.ensures.steps in
    collected_next capacity _ _ _ _ _ c.loop-k.invariant w.some _ w.lowest _ w.others
    (exit_at (sets_in c.args.moves.now) _ c.in-Some.k _ c.row_of-row.ensures.1 c.meets.ensures)
    c.insert_if-x.ensures

pub returns : goal.returns
returns c =
    let all = c.into_iter-k-iterator.ensures.into_iter_gives in
    exits_at_lem _ _ _ _
    (collected_end capacity _ _ _ _ _ (rw all at c.loop-k.invariant) c.in-None.ensures.steps.0)
