-- `write_ranks` gives the next rank to a leader, and to any other input the rank of its leader.
use Prim.Native.Nat.{◌≤◌}
use mathlib.Core.Path.{◌≡◌}
use Rattle.finite.specs.Bounded.{count}
use Rattle.sets.specs.Words.{bits_of}
use Rattle.play.specs.Play.{separated_of}
use Rattle.compact.specs.Rank.{leads}
use Rattle.scratch_ranks.specs.Passed.{Passed}
use Rattle.scratch_ranks.proofs.Written.{Ranked}
use Rattle.scratch_ranks.proofs.write_ranks.Given as goal

abbrev pub invariant-loop-i : goal.invariant-loop-i
invariant-loop-i l =
    (l.i ≤ l.n) × Passed l.g l.i (bits_of l.leaders.0) (bits_of l.met.0) × (l.rank ≡ count l.i (leads (separated_of l.g))) × Ranked l.g l.i l.initial.room l.room
