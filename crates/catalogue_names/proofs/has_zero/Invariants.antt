-- `has_zero` meets its contract.
use Prim.Native.Nat.{◌≤◌}
use mathlib.Core.Path.{◌≡◌}
use lib.ListN.{length, drop}
use Rattle.catalogue_names.specs.Names.{has_zero}
use Rattle.catalogue_names.proofs.has_zero.Given as goal

abbrev pub invariant-loop-b : goal.invariant-loop-b
invariant-loop-b l = (l.b-index ≤ length l.name) × (has_zero l.name ≡ has_zero (drop l.b-index l.name))
