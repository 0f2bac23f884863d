-- `push_columns` goes through the outputs.
use native.Mathlib.Omega.{arith}
use Prim.Native.Nat.{ℕ}
use mathlib.Core.Path.{◌∙◌, ap}
use mathlib.Core.List.{List}
use lib.ListN.{get_or}
use Rattle.sets.specs.Words.{sets_in}
use Rattle.environment_table.proofs.Places.{filled_none, filled_same, roomy_more}
use Rattle.environment_table.proofs.Known.{pushed_of, pushes_next}
use Rattle.environment_plain.proofs.push_columns.Goals as goal

pub loop-o-init : goal.loop-o-init
loop-o-init c = (omega arith, filled_none _ _ (λ a h b p. omega (arith, p.0)))

pub row_of-requires : goal.row_of-requires
row_of-requires c = omega (arith, c.requires.0.ready.fits.output.most)

pub push_column-requires : goal.push_column-requires
push_column-requires c =
    let p = c.requires in
    let o = c.loop-o-test.true in
    let row = c.row_of.ensures.1 ∙ ap (λ (k : List ℕ). get_or (sets_in k) c.loop-o.o 0) p.4 in
    (p.0, roomy_more _ p.1 c.loop-o.invariant.1, pushed_of _ _ _ p.0 _ _ _ p.2 o row c.pushed-x.ensures, o, p.3, p.4)

pub loop-o-preserved : goal.loop-o-preserved
loop-o-preserved c =
    (omega arith, pushes_next _ _ c.loop-o.invariant.1 c.push_column.ensures)

pub shape_of-room : goal.shape_of-room
shape_of-room c = c.loop-o.invariant.1.grows.long

pub returns : goal.returns
returns c = filled_same _ c.loop-o.invariant.1 (λ a h b x y z p. (omega (arith, z, c.loop-o-test.false), p.0, p.1))
