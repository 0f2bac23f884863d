-- `fill_map` writes one row after the other.
use mathlib.Core.Path.{refl, ◌∙◌}
use Rattle.finite.proofs.Front.{front_none}
use Rattle.sets.proofs.Rows.{count_same, sets_long}
use Rattle.board.specs.Board.{game_on}
use Rattle.map_marks.proofs.Rows.{rows_more, rows_end, map_filled}
use native.Mathlib.Omega.{arith}
use Rattle.map.proofs.fill_map.Goals as goal

pub loop-i-init : goal.loop-i-init
loop-i-init g c =
    (omega arith, refl, front_none _ _, λ k. omega (arith, c.slice_known-1.given k), c.won_first-k.ensures _ _ _)

pub map_row-k-requires : goal.map_row-k-requires
map_row-k-requires g c =
    let known = rw (← c.requires.0) at c.requires.1 in
    (refl, (known.0, omega arith, c.loop-i.invariant.4))

pub put-requires : goal.put-requires
put-requires g c =
    let known = rw (← c.requires.0) at c.requires.1 in
    omega (arith, known.1, count_same c.loop-i.map c.args.map.now c.loop-i.invariant.1)

pub loop-i-preserved : goal.loop-i-preserved
loop-i-preserved g c =
    let known = rw (← c.requires.0) at c.requires.1 in (
      omega arith,
      c.put.auto.l ∙ c.loop-i.invariant.1,
      rows_more _ _ _ c.loop-i.i c.loop-i.invariant.2 _ _ (omega (arith, known.1, sets_long c.args.map.now)) c.map_row-k.ensures.1
          c.put.ensures,
      λ k. omega (arith, c.slice_known-in-loop-i-1.given k),
      c.map_row-k.ensures.0,
    )

pub returns : goal.returns
returns g c =
    rw (← c.requires.0) (
    let a = c.args in
    let rows = rows_end _ _ _ c.loop-i.i c.loop-i.invariant.2 a.z.inputs (omega arith) (omega arith) in
    map_filled (game_on a.z a.b.now) _ _ c.loop-i.invariant.3 (λ k. omega (arith, c.slice_known-1.given k)) c.loop-i.invariant.1 rows)
