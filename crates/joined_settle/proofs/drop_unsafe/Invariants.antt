-- `drop_unsafe`.
use Prim.Native.Nat.{◌≤◌}
use lib.ListN.{length}
use Rattle.joined_settle.proofs.Loss.{ShrinkingTo}
use Rattle.joined_settle.proofs.drop_unsafe.Given as goal

abbrev pub invariant-loop-i : goal.invariant-loop-i
invariant-loop-i l = (l.i ≤ l.g.input.states) × (l.g.input.states ≤ 32) × (4096 ≤ length l.s) × ShrinkingTo l.g l.i l.initial.s l.s l.dropped
