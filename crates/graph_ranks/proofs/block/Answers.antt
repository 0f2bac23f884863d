-- `block` is what is left below the next place that nothing crosses, all of it where there is none.
use mathlib.Core.Path.{◌∙◌, ap}
use mathlib.Core.Bool.{Bool, ◌||◌}
use native.Mathlib.Omega.{arith}
use Rattle.bits.specs.Member.{has}
use Rattle.sets.specs.Words.{bits_of}
use Rattle.sets.proofs.Rows.{some}
use Rattle.graph_ranks.proofs.Search.{block_whole, free_small, block_below}
use Rattle.graph_ranks.proofs.block.Goals as goal

pub returns-then-is_empty : goal.returns-then-is_empty
returns-then-is_empty c = λ rows C. block_whole rows _ _ _

pub below-requires-3 : goal.below-requires-3
below-requires-3 c =
    let places = bits_of c.args.places in
    let low = free_small places _ 0 c.args.s _ _ _ c.requires.0 c.requires.1 c.below.ensures
    (λ t. c.union.ensures t ∙ ap (λ (x : Bool). has places t || x) (c.below-2.ensures t)) c.difference-free.ensures _
    (some _ c.is_empty.ensures c.if-is_empty.false) c.lowest.ensures in
    omega (arith, low, c.requires.0)

pub returns : goal.returns
returns c =
    let places = bits_of c.args.places in
    λ rows C. block_below places _ _ c.args.s _ _ _ c.requires.0 c.requires.1 c.below.ensures
    (λ t. c.union.ensures t ∙ ap (λ (x : Bool). has places t || x) (c.below-2.ensures t)) c.difference-free.ensures _
    (some _ c.is_empty.ensures c.if-is_empty.false) c.lowest.ensures _ _ c.below-3.ensures c.intersection.ensures rows C
