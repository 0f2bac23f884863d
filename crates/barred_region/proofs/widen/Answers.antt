-- `widen`.
use Prim.Native.Nat.{◌-◌}
use mathlib.Core.Path.{◌≡◌, refl, ◌∙◌}
use mathlib.Core.Bool.{false}
use native.Mathlib.Omega.{arith}
use Rattle.sets.proofs.Rows.{count_same}
use Rattle.barred_region.proofs.Widening.{assumed_length, widened_within, widened_none, widened_grew, widened_next}
use Rattle.barred_region.proofs.widen.Goals as goal

pub overflow_step-j : goal.overflow_step-j
overflow_step-j c =
    omega (arith, (c.requires.0.requirement 0 (omega arith)).few_assumed)

pub loop-j-init : goal.loop-j-init
loop-j-init c =
    (omega arith, refl, widened_none _ c.requires.0 _ _ _ (omega (arith, assumed_length c.args.g)))

pub waited-wait-requires : goal.waited-wait-requires
waited-wait-requires c =
    (c.requires.0, omega (arith, c.loop-j-test.true, c.loop-j.invariant.0))

pub widen_by-requires : goal.widen_by-requires
widen_by-requires c = (
  c.requires.0,
  omega (arith, c.requires.1, count_same c.loop-j.s c.args.s.now c.loop-j.invariant.1),
  widened_within _ c.requires.0 _ _ _ _ _ c.loop-j.invariant.2 c.requires.2,
)

pub shape_of-s-then-widen_by : goal.shape_of-s-then-widen_by
shape_of-s-then-widen_by c =
    c.widen_by.auto.s ∙ c.loop-j.invariant.1

pub returns-then-widen_by : goal.returns-then-widen_by
returns-then-widen_by c =
    widened_grew _ c.requires.0 _ _ (c.loop-j.j - 1) c.loop-j.j (omega (arith, c.loop-j-test.true)) _ c.loop-j.invariant.2 _ _ _ c.widen_by.ensures
    c.waited-wait.ensures (omega (arith, assumed_length c.args.g, c.loop-j-test.true, c.loop-j.invariant.0)) _ c.if-widen_by.true

pub loop-j-preserved : goal.loop-j-preserved
loop-j-preserved c = (
  omega (arith, c.loop-j.invariant.0),
  c.widen_by.auto.s ∙ c.loop-j.invariant.1,
  widened_next _ c.requires.0 _ _ (c.loop-j.j - 1) c.loop-j.j (omega (arith, c.loop-j-test.true)) _ c.loop-j.invariant.2 _ _ _ c.widen_by.ensures
      c.waited-wait.ensures (omega (arith, assumed_length c.args.g, c.loop-j-test.true, c.loop-j.invariant.0)) c.if-widen_by.false,
)

pub shape_of-s : goal.shape_of-s
shape_of-s c = c.loop-j.invariant.1

pub returns : goal.returns
returns c =
    let e : c.loop-j.j ≡ 0 = omega (arith, c.loop-j-test.false) in
    rw e at c.loop-j.invariant.2
