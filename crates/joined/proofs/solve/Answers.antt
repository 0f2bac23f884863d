-- `solve`.
use Prim.Native.Nat.{◌+◌}
use mathlib.Core.Path.{◌∙◌}
use native.Mathlib.Omega.{arith}
use Rattle.finite.specs.But.{ButFor}
use Rattle.finite.proofs.But.{but_self, but_then}
use Rattle.joined_reach.proofs.Counting.{few_positions}
use Rattle.joined.proofs.Ranks.{begun_kept, backward_start, backward_next, solved}
use Rattle.joined.proofs.solve.Goals as goal

pub count_ahead-requires : goal.count_ahead-requires
count_ahead-requires c = (c.requires.0, c.requires.1, c.requires.2, c.requires.3)

pub clear-requires : goal.clear-requires
clear-requires c =
    omega (arith, c.count_ahead.ensures.kept.long, c.requires.1)

pub overflow_mul-positions : goal.overflow_mul-positions
overflow_mul-positions c =
    omega (arith, few_positions _ c.requires.0)

pub loop-n-init : goal.loop-n-init
loop-n-init c = (
  omega arith,
  omega arith,
  few_positions _ c.requires.0,
  but_self _ _ _,
  backward_start _ c.requires.0 _ _ _ c.requires.1 c.count_ahead.ensures c.clear.ensures,
)

pub settle_rank-requires : goal.settle_rank-requires
settle_rank-requires c =
    let begun : ButFor 0 2048 c.args.s.now c.clear.new.s = begun_kept _ c.requires.0 _ _ _ c.requires.1 c.count_ahead.ensures c.clear.ensures in
    (c.requires.0, omega (arith, c.requires.1, (begun).long, c.loop-n.invariant.3.long), c.loop-n.invariant.4, c.requires.2, c.requires.3)

pub loop-n-smaller : goal.loop-n-smaller
loop-n-smaller c = omega (arith, c.loop-n-test.true)

pub loop-n-preserved : goal.loop-n-preserved
loop-n-preserved c = (
  omega arith,
  omega (arith, c.loop-n-test.true),
  c.loop-n.invariant.2,
  but_then c.loop-n.invariant.3 c.settle_rank.ensures.kept,
  backward_next _ c.requires.0 _ _ _ c.settle_rank.ensures,
)

pub shape_of-s : goal.shape_of-s
shape_of-s c =
    let begun : ButFor 0 2048 c.args.s.now c.clear.new.s = begun_kept _ c.requires.0 _ _ _ c.requires.1 c.count_ahead.ensures c.clear.ensures in
    c.loop-n.invariant.3.long ∙ (begun).long

pub returns : goal.returns
returns c =
    let begun : ButFor 0 2048 c.args.s.now c.clear.new.s = begun_kept _ c.requires.0 _ _ _ c.requires.1 c.count_ahead.ensures c.clear.ensures in
    (but_then (begun) c.loop-n.invariant.3, solved _ c.requires.0 _ c.loop-n.n c.loop-n-test.false c.loop-n.invariant.4)

pub returns-2 : goal.returns-2
returns-2 c =
    let begun : ButFor 0 2048 c.args.s.now c.clear.new.s = begun_kept _ c.requires.0 _ _ _ c.requires.1 c.count_ahead.ensures c.clear.ensures in (
      but_then (begun) (but_then c.loop-n.invariant.3 c.settle_rank.ensures.kept),
      solved _ c.requires.0 _ (c.loop-n.n + 1) (omega arith) (backward_next _ c.requires.0 _ _ _ c.settle_rank.ensures),
    )
