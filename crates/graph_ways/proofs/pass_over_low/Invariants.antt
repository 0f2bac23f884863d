-- `pass_over_low` drops the lowest state until one has a move.
use Rattle.finite.specs.Bounded.{count}
use Rattle.bits.specs.Member.{has}
use Rattle.sets.specs.Words.{capacity, bits_of, sets_in}
use Rattle.graph_ways.specs.Search.{PassedOver}
use Rattle.graph_ways.proofs.pass_over_low.Given as goal

abbrev pub invariant-loop-near : goal.invariant-loop-near
invariant-loop-near l = PassedOver (sets_in l.rows) (bits_of l.near) (bits_of l.initial.rest) (bits_of l.rest)

abbrev pub decreases-loop-near : goal.decreases-loop-near
decreases-loop-near l = count capacity (has (bits_of l.rest))
