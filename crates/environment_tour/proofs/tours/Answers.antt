-- `tours` by its test.
use Rattle.environment_table.proofs.Toured.{aims_of}
use Rattle.environment_table.proofs.Laid.{laid_fits}
use Rattle.sets.proofs.Rows.{none, some}
use Rattle.environment_tour.proofs.Courses.{rests_moving, rests_filled}
use Rattle.environment_tour.proofs.tours.Goals as goal

pub assumptions_met-q-requires : goal.assumptions_met-q-requires
assumptions_met-q-requires c = let p = c.requires in (p.0.accepted, p.2, p.4)

pub stay-requires : goal.stay-requires
stay-requires c =
    let p = c.requires in (
      laid_fits _ _ _ _ p.0 c.layout_of-z.ensures,
      rests_moving _ _ _ _ p.0 c.layout_of-z.ensures _ _ _ p.1 c.assumptions_met-q.ensures
          (none _ c.is_empty.ensures c.if-is_empty.true) p.3,
    )

pub returns-then-is_empty : goal.returns-then-is_empty
returns-then-is_empty c =
    let p = c.requires in
    rests_filled _ _ _ _ p.0 c.layout_of-z.ensures _ _ _ p.1 c.assumptions_met-q.ensures
    (none _ c.is_empty.ensures c.if-is_empty.true) p.3 c.stay.ensures

pub aims-requires : goal.aims-requires
aims-requires c =
    let p = c.requires in
    let q = aims_of _ _ _ _ _ _ p.0 p.1 c.assumptions_met-q.ensures (some _ c.is_empty.ensures c.if-is_empty.false) in
    (p.0, q, p.2, p.3, p.4)
