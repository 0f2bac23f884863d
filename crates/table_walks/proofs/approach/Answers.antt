-- `approach` is a walk of the states inside that are not of the target.
use Rattle.table_walks.proofs.Staying.{staying_stamps, approach_ground, approached}
use Rattle.table_walks.proofs.approach.Goals as goal

pub counter_stays-w-requires : goal.counter_stays-w-requires
counter_stays-w-requires c = c.requires.0.counters

pub walk-requires : goal.walk-requires
walk-requires c =
    let p = c.requires in
    (p.0, staying_stamps _ _ _ c.counter_stays-w.ensures, approach_ground _ _ _ _ c.difference.ensures p.1)

pub returns : goal.returns
returns c =
    approached _ _ _ _ _ _ c.difference.ensures _ c.counter_stays-w.ensures c.walk.ensures
