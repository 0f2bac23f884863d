-- `aim_some` goes through the sets.
use native.Mathlib.Omega.{arith}
use mathlib.Core.Path.{sym, ◌∙◌}
use Rattle.table_layout.proofs.Places.{fits_same}
use Rattle.table_tours.proofs.Ranges.{range_written_none, range_written_next, range_written_past, range_written_end}
use Rattle.table_tours.proofs.aim_some.Goals as goal
use Rattle.table_tours.proofs.aim_some.Goals.{then-member, else-member}

pub loop-j-init : goal.loop-j-init
loop-j-init c = (omega arith, range_written_none _ _ _ _ _ _ _)

pub overflow_add-a : goal.overflow_add-a
overflow_add-a c = omega (arith, c.requires.3.numbers)

pub member-requires : goal.member-requires
member-requires c = omega (arith, c.requires.3.numbers)

pub offset_bounds-t-j : goal.offset_bounds-t-j
offset_bounds-t-j c = omega (arith, c.requires.3.places)

pub bounds-t-j : goal.bounds-t-j
bounds-t-j c = omega (arith, c.requires.3.places)

pub aim-requires : goal.aim-requires
aim-requires c =
    let p = c.requires in
    (fits_same _ _ _ c.loop-j.invariant.1.long p.0, p.1, p.2, sym c.member.ensures ∙ c.if-member.true)

pub loop-j-preserved : goal.loop-j-preserved
loop-j-preserved c = (
  omega arith,
  elim c.if-member.branch [
    | then-member v ↦ range_written_next _ _ _ _ _ _ c.loop-j.j c.loop-j-test.true c.loop-j.invariant.1 v.aim.ensures v.room-is
    | else-member v ↦ range_written_past _ _ _ _ _ _ c.loop-j.j c.requires.2
        (sym c.member.ensures ∙ v.if-member.false) c.loop-j.invariant.1 v.room-is
  ],
)

pub shape_of-room : goal.shape_of-room
shape_of-room c = c.loop-j.invariant.1.long

pub returns : goal.returns
returns c = range_written_end _ _ _ _ _ _ c.loop-j.j _ (omega arith) (omega arith) c.loop-j.invariant.1
