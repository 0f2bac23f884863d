-- `home`.
use Rattle.ground_search.proofs.Meaning.{home_means}
use Rattle.ground_search.proofs.home.Goals as goal

pub returns : goal.returns
returns c =
    let p = c.requires in
    home_means p.0 p.1 p.2 _ c.region_row-homes.ensures c.out_reach-reach.ensures c.intersection-ahead.ensures c.lowest.ensures
