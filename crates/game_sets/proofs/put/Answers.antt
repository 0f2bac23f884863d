-- `put`. Invariant: the sets below number j are written, and those of the other requirements stay.
use mathlib.Core.Path.{◌∙◌}
use native.Mathlib.Omega.{arith}
use Rattle.game_sets.proofs.Listing.{room, begun_none, begun_next, begun_all}
use Rattle.game_sets.proofs.put.Goals as goal

pub loop-j-init : goal.loop-j-init
loop-j-init c = (omega arith, begun_none _ _ _)

pub put-requires : goal.put-requires
put-requires c =
    omega (arith, room c.loop-j.l c.put-arg-1.given.0.1)

pub put-requires-in-loop-j : goal.put-requires-in-loop-j
put-requires-in-loop-j c = omega (arith, room c.put.new.l (c.put.auto.l ∙ c.put-arg-1.given.0.1))

pub loop-j-preserved : goal.loop-j-preserved
loop-j-preserved c = (
  omega arith,
  begun_next _ _ c.loop-j.j _ _ _ _ c.loop-j.invariant.1 c.put-arg-1.given.0.1 c.requires (omega arith) c.put.ensures
      c.put.auto.l c.put-in-loop-j.ensures c.put-in-loop-j.auto.l,
)

pub returns : goal.returns
returns c = let l = c.loop-j in begun_all _ _ l.j _ _ (omega arith) l.invariant.1
