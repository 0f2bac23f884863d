-- `around` searches in a block of what is left.
use native.Mathlib.Omega.{arith}
use Rattle.sets.specs.Words.{sets_in}
use Rattle.graph_ranks.proofs.Search.{block_component}
use Rattle.graph_ranks.proofs.around.Goals as goal

pub block-requires : goal.block-requires
block-requires c = (c.requires.1, c.requires.2 _ c.requires.3)

pub among-requires : goal.among-requires
among-requires c =
    let B = c.block.ensures (sets_in c.args.moves.now) c.requires.4 in
    (c.requires.0, λ t m. omega (arith, c.requires.1, c.requires.2 t (B.inside t m)), B.own c.requires.3)

pub returns : goal.returns
returns c =
    block_component _ _ _ _ _ (c.block.ensures (sets_in c.args.moves.now) c.requires.4) c.requires.2 c.requires.3 _ c.among.ensures
