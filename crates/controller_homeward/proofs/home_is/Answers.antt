-- `home_is`: d is the lowest home in reach.
use Rattle.controller_rows.proofs.Writes.{lowest_both}
use Rattle.controller_homeward.proofs.Lowest.{lowest_is_lem}
use Rattle.controller_homeward.proofs.home_is.Goals as goal

pub returns : goal.returns
returns c = lowest_is_lem _ _ _ (lowest_both _ _ _ c.intersection.ensures c.lowest.ensures)
