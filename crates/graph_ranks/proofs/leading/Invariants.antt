-- `leading` walks the inputs; one that is still left is the smallest of its component.
use Prim.Native.Nat.{◌≤◌}
use mathlib.Core.Path.{◌≡◌}
use Rattle.bits.specs.Member.{pack}
use Rattle.sets.specs.Words.{bits_of}
use Rattle.play.specs.Play.{separated_of}
use Rattle.compact.specs.Rank.{leads}
use Rattle.graph_ranks.proofs.Ranks.{Left}
use Rattle.graph_ranks.proofs.leading.Given as goal

abbrev pub invariant-loop-j : goal.invariant-loop-j
invariant-loop-j l =
    (l.j ≤ l.g.input.states) × (bits_of l.leaders ≡ pack l.j (leads (separated_of l.g))) × Left (separated_of l.g) l.j (bits_of l.left)
