-- `tour`: with no goal, or with some.
use Rattle.sets.proofs.Rows.{none, some}
use Rattle.controller_table.proofs.Phases.{met_goals}
use Rattle.controller_table.proofs.Laid.{laid_fits}
use Rattle.controller_table.proofs.Setting.{table_of}
use Rattle.controller_tour.proofs.Courses.{rests_moving, rests_filled}
use Rattle.controller_tour.proofs.tour.Goals as goal

pub guarantees_met-q-requires : goal.guarantees_met-q-requires
guarantees_met-q-requires c = let p = c.requires in (p.0.accepted, p.3, p.5)

pub columns_of-over-requires : goal.columns_of-over-requires
columns_of-over-requires c =
    let p = c.requires in
    let t = table_of _ _ p.0 _ p.2 in
    (t.inputs, t.columns)

pub stay-requires : goal.stay-requires
stay-requires c =
    let p = c.requires in
    let y = c.layout_of.ensures in (
      laid_fits _ _ _ p.0 y _ p.2,
      rests_moving _ _ _ p.0 y _ p.1 _ (met_goals _ _ p.0 _ p.1 _ c.guarantees_met-q.ensures) p.4,
    )

pub returns-then-is_empty : goal.returns-then-is_empty
returns-then-is_empty c =
    let p = c.requires in
    rests_filled _ _ _ p.0 c.layout_of.ensures _ p.1 _ c.columns_of-over.ensures _
    (met_goals _ _ p.0 _ p.1 _ c.guarantees_met-q.ensures) p.4 (none _ c.is_empty.ensures c.if-is_empty.true) c.stay.ensures

pub seek_all-requires : goal.seek_all-requires
seek_all-requires c =
    let p = c.requires in
    (p.0, p.1, met_goals _ _ p.0 _ p.1 _ c.guarantees_met-q.ensures, some _ c.is_empty.ensures c.if-is_empty.false, p.2, p.3, p.4, p.5)
