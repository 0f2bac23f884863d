-- `write_map`.
use mathlib.Core.Path.{refl, ◌∙◌}
use native.Mathlib.Omega.{arith}
use Rattle.finite.proofs.Front.{front_none}
use Rattle.sets.proofs.Rows.{count_same, sets_long}
use Rattle.map_marks.proofs.Rows.{rows_more, rows_end, map_filled}
use Rattle.joined.proofs.write_map.Goals as goal

pub loop-i-init : goal.loop-i-init
loop-i-init c = (omega arith, refl, front_none _ _, λ k. omega (arith, c.slice_known-1.given k))

pub put-requires : goal.put-requires
put-requires c =
    omega (arith, c.requires.3, count_same c.loop-i.map c.args.map.now c.loop-i.invariant.1)

pub loop-i-preserved : goal.loop-i-preserved
loop-i-preserved c = (
  omega arith,
  c.put.auto.l ∙ c.loop-i.invariant.1,
  rows_more _ _ _ c.loop-i.i c.loop-i.invariant.2 _ _ (omega (arith, c.requires.3, sets_long c.args.map.now))
      (c.of_word.ensures ∙ c.requires.2.rows c.loop-i.i (omega arith)) c.put.ensures,
  λ k. omega (arith, c.slice_known-in-loop-i-1.given k),
)

pub shape_of-map : goal.shape_of-map
shape_of-map c = c.loop-i.invariant.1

pub returns : goal.returns
returns c =
    let g = c.args.g in
    let rows = rows_end _ _ _ c.loop-i.i c.loop-i.invariant.2 g.input.states (omega arith) (omega arith) in
    map_filled g _ _ c.loop-i.invariant.3 (λ k. omega (arith, c.slice_known-1.given k)) c.loop-i.invariant.1 rows
