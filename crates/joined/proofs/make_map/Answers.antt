-- `make_map`.
use mathlib.Core.Path.{◌∙◌}
use native.Mathlib.Omega.{arith}
use Rattle.scratch_clearing.proofs.Clearing.{cleared_same}
use Rattle.joined.proofs.Ranks.{kept_drop}
use Rattle.joined.proofs.make_map.Goals as goal

pub returns : goal.returns
returns c =
    let v = c.solve.ensures in
    (c.clear.ensures ∙ cleared_same 4096 _ _ (kept_drop 4096 (omega arith) v.0), c.write_map.ensures)
