-- `name_end` meets its contract.
use Prim.Native.Nat.{◌+◌, ◌≤◌}
use mathlib.Core.Path.{◌≡◌}
use lib.ListN.{length, drop}
use Rattle.catalogue_names.specs.Names.{front}
use Rattle.catalogue_names.proofs.name_end.Given as goal

abbrev pub invariant-loop-i : goal.invariant-loop-i
invariant-loop-i l = (l.i ≤ length l.list) × (l.at + length (front (drop l.at l.list)) ≡ l.i + length (front (drop l.i l.list)))
