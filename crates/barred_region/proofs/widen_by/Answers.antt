-- `widen_by`.
use mathlib.Core.Logic.{inr}
use native.Mathlib.Omega.{arith}
use Rattle.sets.proofs.Rows.{count_same}
use Rattle.barred_region.proofs.Widening.{widened_by}
use Rattle.barred_region.proofs.widen_by.Goals as goal

pub unite-requires : goal.unite-requires
unite-requires c =
    let most = c.requires.0.input.most in (
      omega (arith, c.requires.1, count_same c.stay.new.s c.args.s.now c.stay.auto.s),
      omega (arith, most),
      omega (arith, most),
      inr
          (omega (arith, most)),
    )

pub returns : goal.returns
returns c =
    widened_by _ c.requires.0 _ _ _ _ _ _ c.stay.ensures c.unite.ensures c.requires.2
