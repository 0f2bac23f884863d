-- `settle`.
use mathlib.Core.Path.{◌∙◌}
use mathlib.Core.Logic.{inr}
use native.Mathlib.Omega.{arith}
use Rattle.sets.proofs.Rows.{count_same}
use Rattle.barred_region.proofs.Settling.{settled_within, settled_same, settled_less}
use Rattle.barred_region.proofs.settle.Goals as goal

pub meet-requires : goal.meet-requires
meet-requires c =
    let most = c.requires.0.input.most in (
      omega (arith, c.requires.1, count_same c.reach.new.s c.args.s.now c.reach.auto.s),
      omega (arith, most),
      omega (arith, most),
      inr
          (omega (arith, most)),
    )

pub trim-requires : goal.trim-requires
trim-requires c = (
  c.requires.0,
  omega (arith, c.requires.1, count_same c.meet.new.s c.args.s.now (c.meet.auto.s ∙ c.reach.auto.s)),
  settled_within _ c.requires.0 _ _ _ _ _ c.reach.ensures c.meet.ensures c.requires.2,
)

pub returns-then-meet : goal.returns-then-meet
returns-then-meet c =
    settled_less _ c.requires.0 _ _ _ _ _ c.reach.ensures c.meet.ensures _ c.trim.ensures c.requires.2 c.if-meet.true

pub returns : goal.returns
returns c =
    settled_same _ c.requires.0 _ _ _ _ _ c.reach.ensures c.meet.ensures c.if-meet.false
