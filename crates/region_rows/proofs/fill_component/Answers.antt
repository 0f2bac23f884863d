-- `fill_component` works out the row of one input, which is that of its component.
use mathlib.Core.Path.{refl}
use Rattle.scratch.proofs.Areas.{in_transitive}
use Rattle.region_rows.proofs.Order.{bottom_below, filling_ready, row_component, component_below, filling_falls, filling_next, kept_writes}
use native.Mathlib.Omega.{arith}
use Rattle.region_rows.proofs.fill_component.Goals as goal

pub bottom-i-requires : goal.bottom-i-requires
bottom-i-requires g c =
    let known = rw (← c.requires.0) at c.requires.1 in
    let p = known in
    (refl, (p.0.fits.input.most, p.0.laid, p.0.inside, p.2))

pub in_row-requires : goal.in_row-requires
in_row-requires g c =
    let known = rw (← c.requires.0) at c.requires.1 in
    let P = known.0 in
    omega (arith, bottom_below P c.bottom-i.ensures, P.fits.input.most)

pub in_component-a-requires : goal.in_component-a-requires
in_component-a-requires g c =
    let known = rw (← c.requires.0) at c.requires.1 in
    let P = known.0 in
    (P.fits.input.most, bottom_below P c.bottom-i.ensures, omega (arith, P.laid.long), in_transitive P.laid)

pub stored_row-r-requires : goal.stored_row-r-requires
stored_row-r-requires g c =
    let known = rw (← c.requires.0) at c.requires.1 in
    let p = known in (
      refl,
      let R = filling_ready p.0 c.bottom-i.ensures in
          (R, p.1, row_component R _ c.in_component-a.ensures),
    )

pub put_rows-requires : goal.put_rows-requires
put_rows-requires g c =
    let known = rw (← c.requires.0) at c.requires.1 in
    let P = known.0 in
    (P.fits.input.most, component_below P c.bottom-i.ensures _ c.in_component-a.ensures, omega (arith, P.laid.long))

pub returns : goal.returns
returns g c =
    let known = rw (← c.requires.0) at c.requires.1 in
    rw (← c.requires.0) (
    let P = known.0 in
    let B = c.bottom-i.ensures in
    let e = c.in_component-a.ensures in
    let f = c.difference.ensures in (
      filling_next P B _ e _ f _ _ c.put_rows.ensures c.stored_row-r.ensures,
      kept_writes P B _ e _ f _ _ c.put_rows.ensures,
      filling_falls P B _ e _ f,
    ))
