-- `follow`.
use native.Mathlib.Omega.{arith}
use Rattle.bits.proofs.Visit.{lowest_less}
use Rattle.sets.specs.Words.{bits_of, capacity}
use Rattle.barred_stay.proofs.Staying.{left_lowest}
use Rattle.barred_stay.proofs.follow.Goals as goal

pub target-requires : goal.target-requires
target-requires c =
    let low = left_lowest _ _ _ c.requires.0 c.requires.4 c.requires.3 c.lowest-j.ensures in
    (omega (arith, low.0, c.requires.0), c.requires.2)

pub shrink-requires : goal.shrink-requires
shrink-requires c =
    let low = left_lowest _ _ _ c.requires.0 c.requires.4 c.requires.3 c.lowest-j.ensures in
    (c.requires.0, omega (arith, low.0, c.requires.0), c.requires.2)

pub returns : goal.returns
returns c =
    record {
      input = c.lowest-j.result;
      lowest = c.lowest-j.ensures;
      rest = bits_of c.without_lowest-rest.result;
      others = lowest_less capacity _ _ _ c.lowest-j.ensures c.without_lowest-rest.ensures;
      entered = bits_of c.target.result.0;
      target = c.target.ensures;
      shrunk = rw c.answering-allowed.ensures at c.shrink.ensures;
    }
