-- `empty` meets its contract.
use Rattle.checker_pairs.proofs.Emptying.{is_none, not_none, emptying_start, emptying_skip, emptying_fits, emptying_round, emptying_next, emptying_end}
use Rattle.checker_pairs.proofs.empty.Goals as goal

pub advise-k-requires : goal.advise-k-requires
advise-k-requires c = let G = c.requires.grid in (G.some, G.few, G.places)

pub loop-v-init : goal.loop-v-init
loop-v-init c = (c.advise-k.ensures, emptying_start _ _ _ _ _ _ _ _ _ _ _ _ c.requires)

pub loop-v-preserved : goal.loop-v-preserved
loop-v-preserved c = (
  c.loop-kept.invariant.0,
  emptying_skip _ _ _ _ _ _ _ _ _ _ _ _ c.requires _ _ _ _ _ _ _ _ c.loop-kept.invariant.1
      c.loop-v-test.true c.loop-kept-test.false,
)

pub pick-pivot-requires : goal.pick-pivot-requires
pick-pivot-requires c =
    (c.requires.grid.places, c.left-k.ensures, record { below = c.loop-v-test.true; inside = c.loop-kept-test.true })

pub attempt-t-requires : goal.attempt-t-requires
attempt-t-requires c =
    emptying_fits _ _ _ _ _ _ _ _ _ _ _ _ c.requires _ _ _ _ _ _ _ _ c.loop-kept.invariant.1 c.pick-pivot.ensures

pub returns-then-is_some : goal.returns-then-is_some
returns-then-is_some c =
    emptying_round _ _ _ _ _ _ _ _ _ _ _ _ c.requires _ _ _ _ _ _ _ _ c.loop-kept.invariant.1 _ _ _ _ _ _ _
    c.attempt-t.ensures (not_none _ c.if-is_some.ensures)

pub loop-kept-preserved : goal.loop-kept-preserved
loop-kept-preserved c = (
  c.left-k.ensures,
  emptying_next _ _ _ _ _ _ _ _ _ _ _ _ c.requires _ _ _ _ _ _ _ _ c.loop-kept.invariant.1
      _ _ _ _ _ _ _ c.attempt-t.ensures (is_none _ c.if-is_some.ensures),
)

pub returns : goal.returns
returns c =
    emptying_end _ _ _ _ _ _ _ _ _ _ _ _ c.requires _ _ _ _ _ _ _ _ c.loop-v.invariant.1 c.loop-v-test.false
