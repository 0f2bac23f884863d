-- `trim`.
use mathlib.Core.Path.{◌∙◌}
use mathlib.Core.Logic.{inr}
use native.Mathlib.Omega.{arith}
use Rattle.sets.proofs.Rows.{count_same}
use Rattle.barred_region.proofs.Trimming.{emptied_within, trimmed}
use Rattle.barred_region.proofs.trim.Goals as goal

pub stay-requires : goal.stay-requires
stay-requires c = (
  c.requires.0,
  omega (arith, c.requires.1, count_same c.empty.new.s c.args.s.now c.empty.auto.s),
  emptied_within _ c.requires.0 _ _
      c.empty.ensures c.requires.2,
)

pub copy-requires : goal.copy-requires
copy-requires c =
    let most = c.requires.0.input.most in (
      omega (arith, c.requires.1, count_same c.stay.new.s c.args.s.now (c.stay.auto.s ∙ c.empty.auto.s)),
      omega (arith, most),
      omega (arith, most),
      inr (omega (arith, most)),
    )

pub returns : goal.returns
returns c =
    trimmed _ c.requires.0 _ _ _ _ _ _ c.empty.ensures c.stay.ensures c.copy.ensures c.empty-none.ensures.1 c.empty-none.ensures.1
