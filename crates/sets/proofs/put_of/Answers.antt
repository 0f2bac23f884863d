-- `put_of` meets its contract.
use Prim.Native.Nat.{◌+◌, ◌*◌}
use mathlib.Core.Path.{◌∙◌}
use native.Mathlib.Omega.{arith}
use lib.ListN.{set, length-set}
use Rattle.sets.specs.Words.{bits_of}
use Rattle.sets.proofs.Rows.{put_words}
use Rattle.sets.proofs.put_of.Goals as goal

pub returns : goal.returns
unfolding bits_of
returns c =
    let a = c.args in
    let half = set a.l.now (2 * a.s) a.x.low in (
      put_words a.l.now a.s a.x.low a.x.high (omega arith),
      length-set half (2 * a.s + 1) a.x.high ∙ length-set a.l.now (2 * a.s) a.x.low,
    )
