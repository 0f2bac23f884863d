-- `follow` plays step by step.
use Prim.Native.Nat.{◌≤◌, ◌-◌}
use mathlib.Core.Path.{◌≡◌}
use lib.ListN.{length, drop}
use Rattle.recorder.specs.Recorded.{nowhere, recorded}
use Rattle.recorder.proofs.follow.Given as goal

abbrev pub invariant-loop-n : goal.invariant-loop-n
invariant-loop-n l =
    (l.n ≤ length l.inputs) × (l.n ≤ length l.outputs) × (recorded l.g l.table l.inputs l.outputs 0 nowhere ≡ recorded l.g l.table (drop l.n l.inputs) (drop l.n l.outputs) l.n l.at)
