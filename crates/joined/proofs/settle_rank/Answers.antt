-- `settle_rank`.
use Prim.Native.Nat.{◌*◌}
use mathlib.Core.Path.{◌≡◌}
use native.Mathlib.Omega.{arith}
use Rattle.joined_reach.proofs.Counting.{few_positions, parts}
use Rattle.joined.proofs.Ranks.{passed_start, passed_rank, passed_more, passed_other}
use Rattle.joined.proofs.settle_rank.Goals as goal
use Rattle.joined.proofs.settle_rank.Goals.{then-s-c, else-s-c}

pub overflow_mul-positions : goal.overflow_mul-positions
overflow_mul-positions c = omega (arith, few_positions _ c.requires.0)

pub loop-c-init : goal.loop-c-init
loop-c-init c = (omega arith, few_positions _ c.requires.0, passed_start _ _ _ c.requires.2)

pub bounds-s-c : goal.bounds-s-c
bounds-s-c c =
    omega (arith, c.requires.1, c.loop-c.invariant.2.kept.long)

pub settle_position-requires : goal.settle_position-requires
settle_position-requires c =
    let t = c.loop-c-test.true in
    let p = parts c.args.g c.loop-c.c t in (
      c.requires.0,
      omega (arith, c.requires.1, c.loop-c.invariant.2.kept.long),
      c.loop-c.invariant.2.backward,
      p.0,
      p.1,
      passed_rank _ _ _ c.loop-c.c _ c.loop-c.invariant.2 t c.if-s-c.true,
      c.requires.3,
      c.requires.4,
    )

pub loop-c-preserved : goal.loop-c-preserved
loop-c-preserved c =
    let t = c.loop-c-test.true in (
      omega arith,
      c.loop-c.invariant.1,
      elim c.if-s-c.branch [
        | then-s-c w ↦ rw w.s-is (passed_more _ _ _ c.loop-c.c _ c.loop-c.invariant.2 t _ w.settle_position.ensures)
        | else-s-c w ↦ rw w.s-is (passed_other _ _ _ c.loop-c.c _ c.loop-c.invariant.2 t w.if-s-c.false)
      ],
    )

pub shape_of-s : goal.shape_of-s
shape_of-s c = c.loop-c.invariant.2.kept.long

pub returns : goal.returns
returns c =
    let e : c.loop-c.c ≡ c.args.g.input.states * c.args.g.output.states = omega arith in
    rw e at c.loop-c.invariant.2
