-- `split_lowest`: a set that isn't empty has a lowest member, and without it fewer members.
use native.Mathlib.Omega.{arith}
use Rattle.std.proofs.Common.{◌≢◌}
use Rattle.bits.proofs.Visit.{lowest_below, lowest_in_lem, lowest_less}
use Rattle.bits.proofs.Remove.{less_falls}
use Rattle.sets.specs.Words.{capacity, bits_of}
use Rattle.sets.proofs.Pair.{pair_lt}
use Rattle.sets.proofs.Rows.{none, some}
use Rattle.sets.proofs.split_lowest.Goals as goal

pub returns-then-is_empty : goal.returns-then-is_empty
returns-then-is_empty c = none _ c.is_empty.ensures c.if-is_empty.true

pub without_lowest-requires : goal.without_lowest-requires
without_lowest-requires c = some _ c.is_empty.ensures c.if-is_empty.false

pub returns : goal.returns
unfolding bits_of
returns c =
    let x = bits_of c.args.x in
    let ne : x ≢ 0 = some x c.is_empty.ensures c.if-is_empty.false in
    let small = pair_lt _ _ (omega arith) (omega arith) in
    let e = c.lowest.ensures in
    let d = c.without_lowest.ensures in
    record {
      some = ne;
      lowest = e;
      others = d;
      fewer =
          less_falls x _ _ (lowest_less capacity x _ _ e d) capacity
          (lowest_below capacity x _ small ne e)
          (lowest_in_lem capacity x _ small ne e);
    }
