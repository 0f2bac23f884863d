-- `aim`: one walk for all states and all counters whose goal is a.
use mathlib.Core.Path.{refl}
use Rattle.table_tours.proofs.Courses.{goal_in, towards_stamps, aim_ground, aimed_done}
use Rattle.table_tours.proofs.aim.Goals as goal

pub next_counter-past-requires : goal.next_counter-past-requires
next_counter-past-requires c = let p = c.requires in goal_in _ _ _ _ p.2 p.3

pub walk-requires : goal.walk-requires
walk-requires c =
    let p = c.requires in (
      p.0,
      towards_stamps _ _ _ _ _ _ _ p.0 p.2 p.3
          (record {
            columns = refl;
            which = c.counters_toward.ensures;
            goal = refl;
            hit = c.next_counter-past.ensures;
            miss = refl;
            more = refl;
          }),
      aim_ground _ _ _ _ p.1 c.intersection.ensures,
    )

pub returns : goal.returns
returns c =
    let p = c.requires in
    aimed_done _ _ _ _ _ _ _ _ _ p.2.some p.3 c.intersection.ensures
    (record {
      columns = refl;
      which = c.counters_toward.ensures;
      goal = refl;
      hit = c.next_counter-past.ensures;
      miss = refl;
      more = refl;
    })
    c.walk.ensures
