-- `explain_positions`: what the board, the region's working out, the filling and the clearing leave.
use native.Mathlib.Omega.{arith}
use Rattle.region.proofs.Board.{prepared_on}
use Rattle.scratch.proofs.Cleared.{cleared_kept}
use Rattle.explain_all.proofs.explain_positions.Goals as goal

pub fill-requires : goal.fill-requires
fill-requires c = (
  (prepared_on c.lay-z.ensures c.prepare-x.ensures).ready,
  c.positions.ensures,
  omega (arith, c.requires.2, c.positions.ensures),
)

pub clear-requires : goal.clear-requires
clear-requires c =
    omega (arith, c.length.ensures, (prepared_on c.lay-z.ensures c.prepare-x.ensures).kept.long, c.requires.1)

pub returns : goal.returns
returns c = (
  cleared_kept _ _ _ _ (prepared_on c.lay-z.ensures c.prepare-x.ensures).kept c.length.ensures c.clear.ensures,
  c.fill.ensures,
)
