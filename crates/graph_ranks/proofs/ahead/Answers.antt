-- `ahead` follows the lowest waiting state, until none waits.
use mathlib.Core.Path.{sym}
use mathlib.Core.Logic.{◌≢◌}
use Rattle.sets.specs.Words.{bits_of}
use Rattle.sets.proofs.Rows.{some, none}
use Rattle.graph_ranks.proofs.Search.{going_start, going_below, going_next, going_falls, going_end}
use Rattle.graph_ranks.proofs.ahead.Goals as goal

pub insert-found-requires : goal.insert-found-requires
insert-found-requires c = c.requires.1

pub loop-inside-init : goal.loop-inside-init
loop-inside-init c =
    going_start _ _ _ c.requires.1 _ (λ t. rw (sym c.empty.ensures.1) (c.insert-found.ensures t))

pub row_of-requires : goal.row_of-requires
row_of-requires c =
    let some-waits : bits_of c.loop-inside.waiting ≢ 0 = some _ c.is_empty.ensures c.loop-inside-test.true in
    going_below _ _ _ _ _ c.loop-inside.invariant (some-waits) _ c.lowest-t.ensures

pub without_lowest-requires : goal.without_lowest-requires
without_lowest-requires c =
    let some-waits : bits_of c.loop-inside.waiting ≢ 0 = some _ c.is_empty.ensures c.loop-inside-test.true in
    some-waits

pub loop-inside-smaller : goal.loop-inside-smaller
loop-inside-smaller c =
    let some-waits : bits_of c.loop-inside.waiting ≢ 0 = some _ c.is_empty.ensures c.loop-inside-test.true in
    going_falls _ _ _ c.requires.0 _ _ _ _ _ _ _ _ _ c.loop-inside.invariant (some-waits) c.lowest-t.ensures c.row_of.ensures.1
    c.intersection-there.ensures c.difference-next.ensures c.union-found.ensures c.without_lowest.ensures c.union-waiting.ensures

pub loop-inside-preserved : goal.loop-inside-preserved
loop-inside-preserved c =
    let some-waits : bits_of c.loop-inside.waiting ≢ 0 = some _ c.is_empty.ensures c.loop-inside-test.true in
    going_next _ _ _ c.requires.0 _ _ _ _ _ _ _ _ _ c.loop-inside.invariant (some-waits) c.lowest-t.ensures c.row_of.ensures.1
    c.intersection-there.ensures c.difference-next.ensures c.union-found.ensures c.without_lowest.ensures c.union-waiting.ensures

pub returns : goal.returns
returns c = going_end _ _ _ _ _ c.loop-inside.invariant (none _ c.is_empty.ensures c.loop-inside-test.false)
