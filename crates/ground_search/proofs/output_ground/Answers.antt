-- `output_ground`.
use native.Mathlib.Omega.{arith}
use Rattle.scratch.proofs.Areas.{in_transitive, out_transitive}
use Rattle.region_dues.proofs.Meaning.{fits_few}
use Rattle.ground_search.proofs.Meaning.{output_means}
use Rattle.ground_search.proofs.Requirements.{first_owed_means, first_missed_means}
use Rattle.ground_search.proofs.Told.{told_pushed_on, owed_below, told_unserved}
use Rattle.ground_search.proofs.output_ground.Goals as goal

pub out_component-b-requires : goal.out_component-b-requires
out_component-b-requires c =
    let p = c.requires.0 in
    (p.ready.fits.input.most, p.ready.fits.output.most, p.output, p.ready.laid.long, out_transitive p.ready.laid)

pub returns-then-not-meets : goal.returns-then-not-meets
returns-then-not-meets c =
    let p = c.requires in
    told_pushed_on p.0 p.1 p.2 (output_means p.0 c.out_moves-moves.ensures c.out_component-b.ensures c.meets.ensures) c.if-not-meets.true-raw

pub in_component-a-requires : goal.in_component-a-requires
in_component-a-requires c =
    let p = c.requires.0 in
    (p.ready.fits.input.most, p.input, omega (arith, p.ready.laid.long), in_transitive p.ready.laid)

pub first_owed-r-requires : goal.first_owed-r-requires
first_owed-r-requires c =
    fits_few _ c.requires.0.ready.fits

pub first_missed-requires : goal.first_missed-requires
first_missed-requires c =
    let p = c.requires in
    let t = output_means p.0 c.out_moves-moves.ensures c.out_component-b.ensures c.meets.ensures in
    let F = fits_few _ p.0.ready.fits in
    let e = first_owed_means p.0 c.in_component-a.ensures c.out_component-b.ensures c.first_owed-r.ensures in
    (F, omega (arith, e, F.requirements, owed_below p.0 p.1 p.2 t c.if-not-meets.false-raw))

pub returns : goal.returns
returns c =
    let p = c.requires in
    let t = output_means p.0 c.out_moves-moves.ensures c.out_component-b.ensures c.meets.ensures in
    let e = first_owed_means p.0 c.in_component-a.ensures c.out_component-b.ensures c.first_owed-r.ensures in
    let l = owed_below p.0 p.1 p.2 t c.if-not-meets.false-raw in
    told_unserved p.0 p.1 p.2 t c.if-not-meets.false-raw _ _ e
    (first_missed_means p.0 c.in_component-a.ensures c.out_component-b.ensures _ (omega (arith, e, l)) c.first_missed.ensures)
