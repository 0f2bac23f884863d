-- `keep` meets its contract.
use Rattle.checker_pairs.specs.Pairs.{Keep}
use Rattle.sets.specs.Words.{bits_of}
use Rattle.checker_pairs.proofs.keep.Given as goal

abbrev pub invariant-loop-c : goal.invariant-loop-c
invariant-loop-c l = Keep l.inputs l.counters l.places l.reached (bits_of l.y) l.kept l.c
