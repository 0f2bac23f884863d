-- `escapes` goes through the outputs, and writes the rows of the last group.
use native.Mathlib.Omega.{arith}
use Prim.Native.Nat.{ℕ}
use mathlib.Core.Path.{◌∙◌, ap}
use mathlib.Core.List.{List}
use lib.ListN.{length, get_or}
use Rattle.bits.proofs.Collect.{collect_none, collect_next, collect_end}
use Rattle.sets.specs.Words.{bits_of, sets_in}
use Rattle.sets.proofs.Rows.{words_held}
use Rattle.table_layout.proofs.Places.{fits_same}
use Rattle.environment_table.proofs.Places.{filled_none, roomy_more}
use Rattle.environment_table.proofs.Laid.{laid_fits}
use Rattle.environment_escape.specs.Gates.{EscapeFits}
use Rattle.environment_escape.proofs.Leaving.{own_layout, own_roomy, gated_none, gated_within, way_lent, leave_next, leave_end}
use Rattle.environment_escape.proofs.escapes.Goals as goal

pub leaving-requires : goal.leaving-requires
leaving-requires c =
    let p = c.requires in
    let most = p.0.ready.fits.input.most in
    (most, words_held _ _ (omega (arith, most, c.leaving-arg-1.given)))

pub loop-o-init : goal.loop-o-init
loop-o-init c = (
  omega arith,
  filled_none _ _ (λ a h b p. omega (arith, p.0)),
  c.empty-touring.ensures.1 ∙ collect_none _,
  gated_none _ _ _ _ c.empty.ensures.1 c.empty-2.ensures.1,
)

pub row_of-requires : goal.row_of-requires
row_of-requires c =
    omega (arith, c.loop-o-test.true, c.requires.0.ready.fits.output.most)

pub escape-t-requires : goal.escape-t-requires
escape-t-requires c =
    let pressed : let a = c.args in EscapeFits c.layout_of-z.result (sets_in a.ins.now) a.s.now (bits_of a.inner.0) (bits_of a.c.0) (bits_of c.leaving.result) a.first.0 c.loop-o.o (bits_of c.row_of.result) (length c.loop-o.room) = record {
      game = c.args.g;
      layout = own_layout c.args.g _ _ c.layout_of-z.ensures;
      moves = ap sets_in c.requires.3;
      known = c.requires.0;
      roomy = own_roomy _ _ _ c.layout_of-z.ensures (roomy_more _ c.requires.1 c.loop-o.invariant.1);
      whole = c.requires.2;
      output = c.loop-o-test.true;
      replies = c.row_of.ensures.1 ∙ ap (λ (x : List ℕ). get_or (sets_in x) c.loop-o.o 0) c.requires.4;
      leaves = record { entered = rw c.requires.3 at c.leaving.ensures };
    } in
    (pressed, gated_within _ _ _ c.layout_of-z.ensures c.loop-o.invariant.3)

pub insert_if-touring-requires : goal.insert_if-touring-requires
insert_if-touring-requires c =
    omega (arith, c.loop-o-test.true, c.requires.0.ready.fits.output.most)

pub loop-o-preserved : goal.loop-o-preserved
loop-o-preserved c =
    let pressed : let a = c.args in EscapeFits c.layout_of-z.result (sets_in a.ins.now) a.s.now (bits_of a.inner.0) (bits_of a.c.0) (bits_of c.leaving.result) a.first.0 c.loop-o.o (bits_of c.row_of.result) (length c.loop-o.room) = record {
      game = c.args.g;
      layout = own_layout c.args.g _ _ c.layout_of-z.ensures;
      moves = ap sets_in c.requires.3;
      known = c.requires.0;
      roomy = own_roomy _ _ _ c.layout_of-z.ensures (roomy_more _ c.requires.1 c.loop-o.invariant.1);
      whole = c.requires.2;
      output = c.loop-o-test.true;
      replies = c.row_of.ensures.1 ∙ ap (λ (x : List ℕ). get_or (sets_in x) c.loop-o.o 0) c.requires.4;
      leaves = record { entered = rw c.requires.3 at c.leaving.ensures };
    } in
    let E = c.escape-t.ensures (pressed) c.loop-o.invariant.3 in (
      omega arith,
      leave_next _ _ c.loop-o.o _ _ c.loop-o.invariant.1 _ _ E,
      collect_next _ c.loop-o.o (bits_of c.loop-o.touring) (bits_of c.insert_if-touring.result) _ c.loop-o.invariant.2 E.tours c.insert_if-touring.ensures,
      E.gated,
    )

pub approach-requires : goal.approach-requires
approach-requires c = (
  fits_same _ _ _ c.loop-o.invariant.1.grows.long (laid_fits _ _ _ _ c.requires.1 c.layout_of-z.ensures),
  gated_within _ _ _ c.layout_of-z.ensures c.loop-o.invariant.3,
)

pub shape_of-room : goal.shape_of-room
shape_of-room c =
    c.approach.ensures.long ∙ c.loop-o.invariant.1.grows.long

pub returns : goal.returns
returns c =
    record {
      filled =
          leave_end _ _ c.loop-o.o _ _ c.loop-o.invariant.1 (omega arith)
          (way_lent _ _ _ _ c.requires.1 c.layout_of-z.ensures _ _ c.requires.2 c.requires.3 _ _ c.loop-o.invariant.3 c.approach.ensures);
      tours = collect_end _ c.loop-o.o _ _ (omega arith) (omega arith) c.loop-o.invariant.2;
    }
