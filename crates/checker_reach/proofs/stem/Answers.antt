-- `stem` meets its contract.
use Rattle.checker_reach.proofs.Gaps.{stem_made}
use native.Mathlib.Omega.{arith}
use Rattle.checker_reach.proofs.stem.Goals as goal

pub copy-requires : goal.copy-requires
copy-requires c =
    let W = c.chain-first.ensures in (
      omega (arith, W.some),
      omega (arith, W.long),
      omega
          (arith, c.requires.room_long),
    )

pub returns : goal.returns
returns c =
    stem_made _ _ _ _ _ _ _ c.chain-first.ensures c.copy.ensures
