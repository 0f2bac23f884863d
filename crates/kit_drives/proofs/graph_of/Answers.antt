-- `graph_of` goes through the modes.
use mathlib.Core.Path.{refl, ◌∙◌, ap}
use native.Mathlib.Omega.{arith}
use Rattle.sets.specs.Words.{words_of}
use Rattle.sets.proofs.Rows.{words_none}
use Rattle.graphs.proofs.Front.{rows_none}
use Rattle.kit_drives.proofs.Moves.{graph_next, graph_made}
use Rattle.kit_drives.proofs.graph_of.Goals as goal

pub loop-m-init : goal.loop-m-init
loop-m-init c = (omega arith, refl, words_none ∙ ap words_of (rows_none _ _ _))

pub moves_from-x-requires : goal.moves_from-x-requires
moves_from-x-requires c = let p = c.requires in (p.modes, p.commands, c.loop-m-test.true)

pub put_of-requires : goal.put_of-requires
put_of-requires c = (c.loop-m-test.true, c.loop-m.invariant.1)

pub loop-m-preserved : goal.loop-m-preserved
loop-m-preserved c =
    let put = c.put_of in
    let from = c.moves_from-x in (
      omega arith,
      put.ensures.1 ∙ c.loop-m.invariant.1,
      graph_next _ _ _ _ _ c.loop-m.m _ c.loop-m-test.true c.loop-m.invariant.2 from.ensures put.ensures.0,
    )

pub returns : goal.returns
returns c = graph_made _ _ c.loop-m.m c.loop-m.invariant.0 c.loop-m-test.false c.loop-m.invariant.2
