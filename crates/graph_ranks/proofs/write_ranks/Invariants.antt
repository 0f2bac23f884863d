-- `write_ranks` writes the next rank for the members of each component that it meets.
use Rattle.sets.specs.Words.{bits_of}
use Rattle.play.specs.Play.{separated_of}
use Rattle.graph_ranks.proofs.Ranks.{Ranking}
use Rattle.graph_ranks.proofs.Walk.{Walked}
use Rattle.graph_ranks.proofs.write_ranks.Given as goal

abbrev pub invariant-loop-j : goal.invariant-loop-j
invariant-loop-j l = Walked l.g (bits_of l.places) l.j (bits_of l.left) l.rank × Ranking (separated_of l.g) l.j l.initial.room l.room
