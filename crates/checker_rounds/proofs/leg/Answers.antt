-- `leg` meets its contract.
use Rattle.checker_rounds.proofs.Walking.{leg_made}
use native.Mathlib.Omega.{arith}
use Rattle.checker_rounds.proofs.leg.Goals as goal

pub copy-requires : goal.copy-requires
copy-requires c =
    let P = c.requires in let W = c.chain-first.ensures in (
      omega (arith, W.some),
      omega
          (arith, W.long),
      omega (arith, P.walk_long, P.room, W.short),
    )

pub returns : goal.returns
returns c =
    leg_made _ _ _ _ _ _ _ _ c.chain-first.ensures c.copy.ensures
    c.requires.walk_long
