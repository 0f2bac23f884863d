-- `aims` goes through the requirements.
use mathlib.Core.Path.{refl}
use native.Mathlib.Omega.{arith}
use Rattle.theory.specs.Choice.{assumptions}
use Rattle.table_sizes.specs.Below.{assumption_side, all_sets}
use Rattle.table_sizes.proofs.Below.{assumptions_listed, few, assumed_few}
use Rattle.table_sizes.proofs.Numbered.{upto_none, upto_next, upto_all, range_short, range_set_lem}
use Rattle.table_layout.proofs.Places.{fits_same}
use Rattle.environment_table.proofs.Laid.{laid_fits}
use Rattle.environment_tour.proofs.Courses.{aims_counted, aims_members, aims_none, aims_further, aims_filled}
use Rattle.environment_tour.proofs.aims.Goals as goal

pub loop-r-init : goal.loop-r-init
loop-r-init c =
    let p = c.requires in
    (omega arith, few _ p.0.accepted, upto_none assumption_side assumptions_listed _, aims_none _ _ _ _ p.0 c.layout_of-z.ensures _ _ _ p.1 _)

pub assumptions_of-t-requires : goal.assumptions_of-t-requires
assumptions_of-t-requires c =
    let p = c.requires in
    (c.loop-r.invariant.1, c.loop-r-test.true, p.2, p.4)

pub aim_some-requires : goal.aim_some-requires
unfolding assumption_side
aim_some-requires c =
    let i = c.loop-r.invariant in
    let p = c.requires in
    let z = c.layout_of-z.ensures in
    let b = c.loop-r-test.true in
    let f = assumed_few _ p.0.accepted c.loop-r.r b in
    let W = c.assumptions_of-t.ensures in (
      fits_same _ _ _ i.3.grows.long (laid_fits _ _ _ _ p.0 z),
      aims_members _ _ _ _ p.0 z _ _ _ p.1,
      aims_counted _ _ _ _ p.0 z _ _ _ p.1,
      range_short assumption_side assumptions_listed _ c.loop-r.r _ _ b i.1 f i.2 W,
    )

pub overflow_add-n : goal.overflow_add-n
unfolding assumption_side
overflow_add-n c =
    let i = c.loop-r.invariant in
    let p = c.requires in
    let b = c.loop-r-test.true in
    let f = assumed_few _ p.0.accepted c.loop-r.r b in
    let W = c.assumptions_of-t.ensures in
    omega (arith, i.1, (upto_next assumption_side assumptions_listed _ c.loop-r.r _ _ b i.1 f i.2 W).few)

pub loop-r-preserved : goal.loop-r-preserved
unfolding assumption_side all_sets assumptions
loop-r-preserved c =
    let i = c.loop-r.invariant in
    let p = c.requires in
    let b = c.loop-r-test.true in
    let f = assumed_few _ p.0.accepted c.loop-r.r b in
    let W = c.assumptions_of-t.ensures in (
      omega arith,
      i.1,
      upto_next assumption_side assumptions_listed _ c.loop-r.r _ _ b i.1 f i.2 W,
      aims_further _ _ _ _ p.0 c.layout_of-z.ensures _ _ _ p.1 p.3 _ _ c.assumptions_of-t.ensures.first
          (range_set_lem assumption_side assumptions_listed _ c.loop-r.r _ _ b i.1 f i.2 W) i.3 c.aim_some.ensures refl,
    )

pub shape_of-room : goal.shape_of-room
shape_of-room c = c.loop-r.invariant.3.grows.long

pub returns : goal.returns
unfolding assumption_side all_sets assumptions
returns c =
    let i = c.loop-r.invariant in
    let p = c.requires in
    aims_filled _ _ _ _ p.0 c.layout_of-z.ensures _ _ _ p.1 _
    (upto_all assumption_side assumptions_listed _ c.loop-r.r _ i.0 c.loop-r-test.false i.2) i.3
