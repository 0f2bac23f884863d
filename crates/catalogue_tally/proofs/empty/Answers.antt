-- `empty` meets its contract.
use mathlib.Core.Path.{refl}
use Rattle.catalogue_tally.specs.Figures.{empty_tally}
use Rattle.catalogue_tally.proofs.empty.Goals as goal

pub returns : goal.returns
unfolding empty_tally
returns c = refl
