-- `count_ahead`.
use native.Mathlib.Omega.{arith}
use Rattle.joined_reach.proofs.Counting.{few_positions, parts, ranking_start, ranking_more, ranking_end}
use Rattle.joined_reach.proofs.count_ahead.Goals as goal

pub overflow_mul-positions : goal.overflow_mul-positions
overflow_mul-positions c = omega (arith, few_positions _ c.requires.0)

pub loop-c-init : goal.loop-c-init
loop-c-init c = (omega arith, few_positions _ c.requires.0, ranking_start _ _)

pub close-requires : goal.close-requires
close-requires c =
    let p = parts c.args.g c.loop-c.c c.loop-c-test.true in
    (c.requires.0, p.0, p.1, omega (arith, c.loop-c.invariant.2.kept.long), c.requires.2, c.requires.3)

pub count_found-requires : goal.count_found-requires
count_found-requires c =
    (c.requires.0, omega (arith, c.close.ensures.kept.long, c.loop-c.invariant.2.kept.long), c.close.ensures.within)

pub loop-c-preserved : goal.loop-c-preserved
loop-c-preserved c = (
  omega arith,
  c.loop-c.invariant.1,
  ranking_more _ c.requires.0 _ _ c.loop-c.c c.loop-c.invariant.2 (omega arith) c.requires.1 _ c.close.ensures _ c.count_found.ensures,
)

pub shape_of-s : goal.shape_of-s
shape_of-s c = c.loop-c.invariant.2.kept.long

pub returns : goal.returns
returns c = ranking_end _ _ _ _ (omega arith) (omega arith) c.loop-c.invariant.2
