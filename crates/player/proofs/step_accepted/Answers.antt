-- `step_accepted` tests the length, then lends what a step reads.
use mathlib.Core.Path.{refl}
use Rattle.player.proofs.Answers.{fits, fits_not, stepped_length}
use Rattle.player.proofs.step_accepted.Goals as goal

pub returns-then-table-controller_length : goal.returns-then-table-controller_length
returns-then-table-controller_length c = stepped_length _ _ _ _ (fits_not _ _ _ c.controller_length.ensures c.if-table-controller_length.true)

pub step_lent-requires : goal.step_lent-requires
step_lent-requires c = (
  c.requires,
  record { sizes = c.sizes_of.ensures; inputs = refl; outputs = refl },
  fits _ _ _ c.controller_length.ensures c.if-table-controller_length.false,
)
