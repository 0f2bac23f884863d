-- `walk`: round after round while states are left and a round settles some; each round leaves fewer.
use mathlib.Core.Path.{refl, ◌∙◌}
use Rattle.sets.proofs.Rows.{none, some, is_none}
use Rattle.table_layout.proofs.Places.{fits_same}
use Rattle.graph_ways.proofs.Levels.{levels_start, levels_within, left_falls}
use Rattle.table_walks.proofs.Stamping.{walked_start, walked_turn, walked_still, walked_empty}
use Rattle.table_walks.proofs.walk.Goals as goal

pub loop-z-init : goal.loop-z-init
loop-z-init c = let g = c.requires.2 in walked_start _ _ _ _ _ _ _ (levels_start _ _ _ _ _ g.members g.inside g.cover)

pub settle-settled-requires : goal.settle-settled-requires
settle-settled-requires c =
    let p = c.requires in
    (fits_same _ _ _ c.loop-z.invariant.long p.0, p.1, levels_within _ _ _ _ _ _ c.loop-z.invariant.levels)

pub shape_of-room-then-is_empty : goal.shape_of-room-then-is_empty
shape_of-room-then-is_empty c =
    c.settle-settled.ensures.long ∙ c.loop-z.invariant.long

pub returns-then-is_empty : goal.returns-then-is_empty
returns-then-is_empty c =
    walked_still _ _ _ _ _ _ _ _ _ c.requires.0.states c.loop-z.invariant c.settle-settled.ensures
    (none _ c.is_empty-in-loop-z.ensures c.if-is_empty.true) refl

pub loop-z-smaller : goal.loop-z-smaller
loop-z-smaller c =
    left_falls _ _ _ _ _ _ _ c.requires.0.states c.loop-z.invariant.levels c.settle-settled.ensures.states _ _
    c.union-reached.ensures c.difference-left.ensures (some _ c.is_empty-in-loop-z.ensures c.if-is_empty.false)

pub loop-z-preserved : goal.loop-z-preserved
loop-z-preserved c =
    walked_turn _ _ _ _ _ _ _ _ _ c.requires.0.states c.loop-z.invariant c.settle-settled.ensures _ _
    c.union-reached.ensures c.difference-left.ensures refl

pub shape_of-room : goal.shape_of-room
shape_of-room c = c.loop-z.invariant.long

pub returns : goal.returns
returns c = walked_empty _ _ _ _ _ _ c.loop-z.invariant (is_none _ c.is_empty.ensures c.loop-z-test.false-raw)
