-- `parts_fit` goes through the parts of the inputs.
use Prim.Native.Nat.{◌-◌, ◌*◌}
use mathlib.Core.Path.{◌≡◌}
use lib.ListN.{length}
use Rattle.play.specs.Play.{separated_of}
use Rattle.theory.specs.Entries.{controller_counters}
use Rattle.compact_checks.specs.Parts.{part_size}
use Rattle.compact_checks.specs.Firsts.{AsFirst}
use Rattle.compact_checks.proofs.parts_fit.Given as goal

abbrev pub invariant-loop-part : goal.invariant-loop-part
invariant-loop-part l =
    (l.n ≡ l.g.input.states) × (l.rows ≡ l.g.output.states * controller_counters (separated_of l.g)) × (length l.firsts ≡ part_size)
    × AsFirst (separated_of l.g) l.table l.rows l.part

abbrev pub decreases-loop-part : goal.decreases-loop-part
decreases-loop-part l = l.n - l.part
