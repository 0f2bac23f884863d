-- `fill` writes one entry after the other.
use mathlib.Core.Path.{refl}
use native.Mathlib.Nat.{mod-lt, div-lt_iff_lt-mul}
use native.Mathlib.Omega.{arith}
use lib.ListN.{length-set}
use Rattle.finite.proofs.Front.{front_none}
use Rattle.map_marks.proofs.Rows.{rows_more, rows_end}
use Rattle.explain_all.specs.All.{positions, position_entry, grounds_after}
use Rattle.explain_all.proofs.fill.Goals as goal

pub loop-p-init : goal.loop-p-init
loop-p-init c = (omega arith, refl, front_none _ _)

pub nonzero_div-p : goal.nonzero_div-p
nonzero_div-p c = omega (arith, c.requires.0.fits.output.some)

pub nonzero_rem-p : goal.nonzero_rem-p
nonzero_rem-p c = omega (arith, c.requires.0.fits.output.some)

pub position_entry-e-requires : goal.position_entry-e-requires
unfolding positions
position_entry-e-requires c =
    let some = c.requires.0.fits.output.some in
    record {
      ready = c.requires.0;
      input = (div-lt_iff_lt-mul some).1 (omega (arith, c.requires.1));
      output = mod-lt c.loop-p.p some;
    }

pub bounds-grounds-p : goal.bounds-grounds-p
bounds-grounds-p c = omega (arith, c.requires.2)

pub loop-p-preserved : goal.loop-p-preserved
unfolding position_entry
loop-p-preserved c = (
  omega arith,
  simp length-set c.loop-p.invariant.1,
  rows_more _ _ _ c.loop-p.p c.loop-p.invariant.2 _ _ (omega (arith, c.requires.2)) c.position_entry-e.ensures refl,
)

pub shape_of-grounds : goal.shape_of-grounds
shape_of-grounds c = c.loop-p.invariant.1

pub returns : goal.returns
unfolding grounds_after
returns c =
    rows_end _ _ _ c.loop-p.p c.loop-p.invariant.2 (positions c.args.g) (omega (arith, c.requires.1)) (omega (arith, c.requires.1))
