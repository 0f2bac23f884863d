-- `put`. Invariant: the sets below number j are written, and those of the other requirements stay.
use Prim.Native.Nat.{◌-◌, ◌≤◌}
use Rattle.game_sets.proofs.Listing.{Begun}
use Rattle.game_sets.proofs.put.Given as goal

abbrev pub invariant-loop-j : goal.invariant-loop-j
invariant-loop-j l = (l.j ≤ 4) × Begun l.q l.r l.j l.initial.l l.l
