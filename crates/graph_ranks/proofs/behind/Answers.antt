-- `behind` sweeps until a sweep finds nothing.
use mathlib.Core.Path.{sym}
use Rattle.sets.specs.Words.{sets_in}
use Rattle.sets.proofs.Rows.{differ, alike}
use Rattle.graph_ranks.proofs.Search.{backing_start, left_small, backing_next, backing_falls, backing_end}
use Rattle.graph_ranks.proofs.behind.Goals as goal

pub insert-found-requires : goal.insert-found-requires
insert-found-requires c = c.requires.2

pub sweep-more-requires : goal.sweep-more-requires
sweep-more-requires c = (c.requires.0, c.requires.1)

pub loop-found-init : goal.loop-found-init
loop-found-init c =
    backing_start _ _ _ _ _ (λ t. rw (sym c.empty.ensures.1) (c.insert-found.ensures t)) c.sweep-more.ensures

pub sweep-more-requires-in-loop-found : goal.sweep-more-requires-in-loop-found
sweep-more-requires-in-loop-found c =
    (c.requires.0, left_small (sets_in c.args.moves.now) _ c.args.s _ _ c.requires.1 c.difference.ensures)

pub loop-found-smaller : goal.loop-found-smaller
loop-found-smaller c =
    backing_falls _ _ _ c.requires.1 c.requires.2 _ _ c.loop-found.invariant (differ _ _ c.same.ensures c.loop-found-test.true-raw)

pub loop-found-preserved : goal.loop-found-preserved
loop-found-preserved c =
    backing_next _ _ _ _ _ _ _ c.loop-found.invariant c.difference.ensures c.sweep-more-in-loop-found.ensures

pub returns : goal.returns
returns c =
    backing_end _ _ _ c.requires.1 c.requires.2 _ _ c.loop-found.invariant (alike _ _ c.same.ensures c.loop-found-test.false-raw)
