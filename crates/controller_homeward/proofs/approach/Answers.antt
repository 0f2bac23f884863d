-- `approach` goes through the inputs at home, those with the same lower homes at once.
use mathlib.Core.Path.{refl}
use mathlib.Core.Logic.{◌≢◌}
use native.Mathlib.Omega.{arith}
use Rattle.sets.specs.Words.{bits_of}
use Rattle.sets.proofs.Rows.{is_none, is_some}
use Rattle.table_layout.proofs.Places.{fits_same}
use Rattle.controller_table.proofs.Laid.{laid_fits}
use Rattle.controller_homeward.proofs.Homeward.{home_read, home_within, near_both, near_of, own_reach, packed_within, group_filled, homing_start, homing_within, homing_inner, homing_in, homing_falls, homing_next, homing_end}
use Rattle.controller_homeward.proofs.approach.Goals as goal

pub reaching-around-requires : goal.reaching-around-requires
reaching-around-requires c =
    let p = c.requires in
    let r = home_read _ _ _ _ p.0 _ p.1 in
    (r.0, omega (arith, r.1, p.0.sized.outputs), r.2, omega (arith, r.4, p.0.sized.outputs))

pub loop-g-init : goal.loop-g-init
loop-g-init c =
    let p = c.requires in
    homing_start _ _ _ _ p.0 _ p.1 _ _ c.intersection-rest.ensures

pub lower-homes-requires : goal.lower-homes-requires
lower-homes-requires c =
    let some_left : bits_of c.loop-g.rest ≢ 0 = is_some _ c.is_empty.ensures c.loop-g-test.true-raw in
    let p = c.requires in
    let r = home_read _ _ _ _ p.0 _ p.1 in
    (r.0, homing_in _ _ _ _ p.0 _ p.1 _ c.loop-g.invariant (some_left) _ c.lowest-j.ensures, r.3, r.2)

pub alike_in-group-requires : goal.alike_in-group-requires
alike_in-group-requires c =
    let p = c.requires in
    let r = home_read _ _ _ _ p.0 _ p.1 in (
      r.0,
      r.3,
      r.2,
      homing_within _ _ _ _ p.0 _ p.1 _ c.loop-g.invariant,
      p.4,
      homing_inner _ _ _ _ p.0 _ p.1 _ c.loop-g.invariant,
    )

pub nearest-inside-requires : goal.nearest-inside-requires
nearest-inside-requires c =
    let p = c.requires in
    let r = home_read _ _ _ _ p.0 _ p.1 in (
      r.0,
      omega (arith, r.1, p.0.sized.outputs),
      omega (arith, r.4, p.0.sized.outputs),
      packed_within _ _ _ c.reaching-around.ensures,
      own_reach _ _ _ _ p.0 _ p.1,
    )

pub columns_of-over-requires : goal.columns_of-over-requires
columns_of-over-requires c =
    let p = c.requires in
    ((home_read _ _ _ _ p.0 _ p.1).0, p.0.sized.columns)

pub approach-requires : goal.approach-requires
approach-requires c =
    let p = c.requires in (
      fits_same _ _ _ c.loop-g.invariant.filled.long (laid_fits _ _ _ p.0.sized c.layout_of-y.ensures _ p.2),
      home_within _ _ _ _ p.0 _ p.1 _ c.layout_of-y.ensures,
    )

pub loop-g-smaller : goal.loop-g-smaller
loop-g-smaller c =
    let some_left : bits_of c.loop-g.rest ≢ 0 = is_some _ c.is_empty.ensures c.loop-g-test.true-raw in
    let p = c.requires in
    homing_falls _ _ _ _ p.0 _ p.1 _ c.loop-g.invariant (some_left) _ c.lowest-j.ensures _ _ _ c.lower-homes.ensures
    c.alike_in-group.ensures c.difference-rest.ensures

pub loop-g-preserved : goal.loop-g-preserved
loop-g-preserved c =
    let p = c.requires in
    let near = near_of _ _ p.0.sized _ _ _ refl (near_both _ _ _ _ _ _ _ c.reaching-around.ensures c.nearest-inside.ensures) in
    homing_next _ _ _ _ p.0 _ p.1 _ c.loop-g.invariant _ _ c.difference-rest.ensures
    (group_filled _ _ _ _ p.0 _ p.1 _ c.layout_of-y.ensures _ _ (bits_of c.loop-g.rest) near p.3 _ _
    (λ j h. (c.loop-g.invariant.inputs j h).1) c.alike_in-group.ensures c.columns_of-over.ensures c.approach.ensures)
    refl

pub shape_of-room : goal.shape_of-room
shape_of-room c = c.loop-g.invariant.filled.long

pub returns : goal.returns
returns c =
    let p = c.requires in
    homing_end _ _ _ _ p.0 _ p.1 _ c.loop-g.invariant (is_none _ c.is_empty.ensures c.loop-g-test.false-raw)
