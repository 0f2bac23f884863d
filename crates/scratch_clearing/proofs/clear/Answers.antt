-- `clear` fills the first words.
use Rattle.scratch_clearing.proofs.Clearing.{cleared_filled}
use Rattle.scratch_clearing.proofs.clear.Goals as goal

pub returns : goal.returns
returns c = cleared_filled _ _ _ c.requires (c.fill.ensures.after (λ y h. h))
