-- `seek_all` goes through the requirements.
use mathlib.Core.Path.{refl}
use native.Mathlib.Omega.{arith}
use Rattle.theory.specs.Choice.{guarantees}
use Rattle.table_sizes.specs.Below.{guarantee_side, all_sets}
use Rattle.table_sizes.proofs.Below.{guarantees_listed, few, guaranteed_few}
use Rattle.table_sizes.proofs.Numbered.{upto_none, upto_next, upto_all, range_short, range_set_lem}
use Rattle.table_layout.proofs.Places.{fits_same}
use Rattle.controller_table.proofs.Laid.{laid_fits}
use Rattle.controller_table.proofs.Setting.{table_of}
use Rattle.controller_tour.proofs.Courses.{home_counted, home_members, home_none, home_further, home_filled}
use Rattle.controller_tour.proofs.seek_all.Goals as goal

pub columns_of-over-requires : goal.columns_of-over-requires
columns_of-over-requires c =
    let p = c.requires in
    let t = table_of _ _ p.0 _ p.4 in
    (t.inputs, t.columns)

pub loop-r-init : goal.loop-r-init
loop-r-init c =
    let p = c.requires in
    (omega arith, few _ p.0.accepted, upto_none guarantee_side guarantees_listed _, home_none _ _ _ _ _ _)

pub guarantees_of-t-requires : goal.guarantees_of-t-requires
guarantees_of-t-requires c =
    let p = c.requires in
    (c.loop-r.invariant.1, c.loop-r-test.true, p.5, p.7)

pub aim_some-requires : goal.aim_some-requires
unfolding guarantee_side
aim_some-requires c =
    let i = c.loop-r.invariant in
    let p = c.requires in
    let z = c.layout_of-y.ensures in
    let b = c.loop-r-test.true in
    let f = guaranteed_few _ p.0.accepted c.loop-r.r b in
    let W = c.guarantees_of-t.ensures in (
      fits_same _ _ _ i.3.long (laid_fits _ _ _ p.0 z _ p.4),
      home_members _ _ _ p.0 z _ p.1,
      home_counted _ _ _ p.0 z _ p.1 _ p.2 p.3,
      range_short guarantee_side guarantees_listed _ c.loop-r.r _ _ b i.1 f i.2 W,
    )

pub overflow_add-n : goal.overflow_add-n
unfolding guarantee_side
overflow_add-n c =
    let i = c.loop-r.invariant in
    let p = c.requires in
    let b = c.loop-r-test.true in
    let f = guaranteed_few _ p.0.accepted c.loop-r.r b in
    let W = c.guarantees_of-t.ensures in
    omega (arith, i.1, (upto_next guarantee_side guarantees_listed _ c.loop-r.r _ _ b i.1 f i.2 W).few)

pub loop-r-preserved : goal.loop-r-preserved
unfolding guarantee_side all_sets guarantees
loop-r-preserved c =
    let i = c.loop-r.invariant in
    let p = c.requires in
    let b = c.loop-r-test.true in
    let f = guaranteed_few _ p.0.accepted c.loop-r.r b in
    let W = c.guarantees_of-t.ensures in (
      omega arith,
      i.1,
      upto_next guarantee_side guarantees_listed _ c.loop-r.r _ _ b i.1 f i.2 W,
      home_further _ _ _ _ _ p.6 _ _ c.guarantees_of-t.ensures.first
          (range_set_lem guarantee_side guarantees_listed _ c.loop-r.r _ _ b i.1 f i.2 W) i.3 c.aim_some.ensures refl,
    )

pub shape_of-room : goal.shape_of-room
shape_of-room c = c.loop-r.invariant.3.long

pub returns : goal.returns
unfolding guarantee_side all_sets guarantees
returns c =
    let i = c.loop-r.invariant in
    let p = c.requires in
    home_filled _ _ _ p.0 c.layout_of-y.ensures _ p.1 _ c.columns_of-over.ensures _ p.2 p.3 _
    (upto_all guarantee_side guarantees_listed _ c.loop-r.r _ i.0 c.loop-r-test.false i.2) i.3
