-- `put_opening` meets its contract. The invariant: what is left, with what is done, makes the whole.
use lib.ListN.{length, drop}
use Prim.Native.Nat.{◌≤◌, ◌<◌}
use mathlib.Core.Path.{◌≡◌}
use Rattle.text_put.proofs.Buffer.{Remains}
use Rattle.text_shape.specs.Shape.{opening}
use Rattle.text_put.proofs.put_opening.Given as goal

abbrev pub invariant-loop-k : goal.invariant-loop-k
invariant-loop-k l =
    Remains l.initial.buffer l.at (opening l.w) l.buffer l.to (drop l.k (opening l.w)) × (l.k ≤ length (opening l.w)) × (l.n ≡ length (opening l.w))
    × (l.w < 10)
