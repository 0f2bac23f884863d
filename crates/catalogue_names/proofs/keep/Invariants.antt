-- `keep` meets its contract.
use Prim.Native.Nat.{◌≤◌}
use lib.ListN.{length, take}
use Rattle.catalogue_names.specs.Keeping.{Keeps}
use Rattle.catalogue_names.proofs.keep.Given as goal

abbrev pub invariant-loop-b : goal.invariant-loop-b
invariant-loop-b l = (l.b-index ≤ length l.part) × Keeps l.initial.list l.initial.kept (take l.b-index l.part) l.kept l.list
