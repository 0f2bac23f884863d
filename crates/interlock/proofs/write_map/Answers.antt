-- `write_map`.
use mathlib.Core.Path.{refl, ◌∙◌, ap}
use lib.ListN.{drop}
use native.Mathlib.Omega.{arith}
use Rattle.finite.proofs.Front.{front_none, front_rest}
use Rattle.sets.proofs.Rows.{count_same, sets_long, rest_words}
use Rattle.map_marks.proofs.Rows.{rows_more, rows_end}
use Rattle.interlock.proofs.write_map.Goals as goal

pub loop-i-init : goal.loop-i-init
loop-i-init c = (omega arith, refl, front_none _ _, λ k. omega (arith, c.slice_known-1.given k))

pub row-requires : goal.row-requires
row-requires c =
    omega (arith, c.requires.0)

pub put-requires : goal.put-requires
put-requires c =
    omega (arith, c.requires.1, count_same c.loop-i.map c.args.map.now c.loop-i.invariant.1)

pub loop-i-preserved : goal.loop-i-preserved
loop-i-preserved c = (
  omega arith,
  c.put.auto.l ∙ c.loop-i.invariant.1,
  rows_more _ _ _ c.loop-i.i c.loop-i.invariant.2 _ _ (omega (arith, c.requires.1, sets_long c.args.map.now)) c.row.ensures c.put.ensures,
  λ k. omega (arith, c.slice_known-in-loop-i-1.given k),
)

pub shape_of-map : goal.shape_of-map
shape_of-map c = c.loop-i.invariant.1

pub returns : goal.returns
returns c =
    let n = c.args.g.input.states in
    let rows = rows_end _ _ _ c.loop-i.i c.loop-i.invariant.2 n (omega arith) (omega arith) in
    record {
      sets = rows;
      later = rest_words n _ _ c.loop-i.invariant.3 (λ j. omega (arith, c.slice_known-1.given j)) c.loop-i.invariant.1 (ap (drop n) rows ∙ front_rest _ _ n);
    }
