-- `tally_names` meets its contract.
use Prim.Native.Nat.{◌-◌, ◌≤◌}
use lib.ListN.{length}
use Rattle.catalogue_names.specs.Names.{names}
use Rattle.catalogue.proofs.Names.{Under}
use Rattle.catalogue.proofs.tally_names.Given as goal

abbrev pub invariant-loop-at : goal.invariant-loop-at
invariant-loop-at l =
    (l.at ≤ length l.list) × (l.k ≤ l.at) × Under l.list l.at l.t × (length (names l.list) ≤ 1000)

abbrev pub decreases-loop-at : goal.decreases-loop-at
decreases-loop-at l = length l.list - l.at
