-- `list_of`. Invariant: the sets and counts of the requirements below r are listed.
use Prim.Native.Nat.{◌-◌, ◌≤◌}
use mathlib.Core.Path.{◌≡◌}
use lib.ListN.{length}
use Rattle.game_sets.specs.Lists.{list_words}
use Rattle.game_sets.proofs.Listing.{Upto, CountsUpto}
use Rattle.game_sets.proofs.list_of.Given as goal

abbrev pub invariant-loop-r : goal.invariant-loop-r
invariant-loop-r l =
    (l.r ≤ 8) × (length l.l ≡ list_words) × (length l.assumed ≡ 8) × (length l.guaranteed ≡ 8) × Upto l.requirements l.r l.l × CountsUpto l.requirements l.r l.assumed l.guaranteed
