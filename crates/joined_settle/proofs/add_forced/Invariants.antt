-- `add_forced`.
use Prim.Native.Nat.{◌≤◌}
use lib.ListN.{length}
use Rattle.joined_settle.proofs.Growth.{GrowingTo}
use Rattle.joined_settle.proofs.add_forced.Given as goal

abbrev pub invariant-loop-i : goal.invariant-loop-i
invariant-loop-i l = (l.i ≤ l.g.input.states) × (l.g.input.states ≤ 32) × (4096 ≤ length l.s) × GrowingTo l.g l.i l.initial.s l.s l.added
