-- `source` meets its contract.
use native.Mathlib.Omega.{arith}
use Rattle.bits.proofs.Visit.{lowest_below}
use Rattle.sets.specs.Words.{capacity, bits_of}
use Rattle.sets.proofs.Pair.{pair_lt}
use Rattle.sets.proofs.Rows.{some}
use Rattle.checker_order.proofs.Bounds.{row_in, input_in}
use Rattle.checker_order.proofs.source.Goals as goal

pub row-x-requires : goal.row-x-requires
row-x-requires c = let P = c.requires in row_in c.args.r c.args.inputs _ P.2 P.3

pub row_of-requires : goal.row_of-requires
row_of-requires c = input_in c.args.r c.args.inputs c.requires.0 c.requires.1

pub returns : goal.returns
unfolding bits_of
returns c =
    let ne = some _ c.is_empty.ensures c.if-is_empty.false in
    lowest_below capacity _ _ (pair_lt _ _ (omega arith) (omega arith)) ne c.lowest.ensures
