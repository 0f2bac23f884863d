-- `alike_in`: all of x are asked, or those that begin a run.
use Rattle.controller_homeward.proofs.Lowest.{alike_part, alike_spread}
use Rattle.controller_homeward.proofs.alike_in.Goals as goal

pub returns-then-is_subset : goal.returns-then-is_subset
returns-then-is_subset c = c.alike.ensures

pub alike-y-requires : goal.alike-y-requires
alike-y-requires c =
    let p = c.requires in
    (p.0, p.1, p.2, p.4.below)

pub spread-z-requires : goal.spread-z-requires
spread-z-requires c =
    let p = c.requires in
    (p.0, p.4.below, alike_part _ _ _ _ _ _ c.alike-y.ensures)

pub returns : goal.returns
returns c =
    let p = c.requires in
    alike_spread _ _ _ _ _ _ c.alike-y.ensures _ _ _ p.4 p.3 p.5 c.spread-z.ensures c.intersection.ensures
