-- `assumption`: the place of the set is in the list.
use native.Mathlib.Omega.{arith}
use Rattle.game_sets.proofs.Listing.{room}
use Rattle.game_sets.proofs.assumption.Goals as goal

pub row-requires : goal.row-requires
row-requires c = omega (arith, room c.args.l.now c.row-arg-1.given)
