-- `inputs_with_home`: what is in reach is what o reaches, and a run has its home where its first input has it.
use Rattle.controller_homeward.proofs.Lowest.{settled_part, has_home_spread}
use Rattle.controller_homeward.proofs.inputs_with_home.Goals as goal

pub spread-requires : goal.spread-requires
spread-requires c =
    let p = c.requires in
    (p.0, p.3.below, settled_part _ _ _ _ _ _ c.settled-x.ensures)

pub returns : goal.returns
returns c =
    has_home_spread _ _ _ _ _ _ c.settled-x.ensures _ _ c.requires.3 c.out_reach-reach.ensures c.spread.ensures
