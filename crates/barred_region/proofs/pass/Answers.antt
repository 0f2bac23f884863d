-- `pass`.
use Prim.Native.Nat.{◌<◌}
use mathlib.Core.Path.{◌≡◌, refl, ◌∙◌}
use native.Mathlib.Omega.{arith}
use Rattle.sets.proofs.Rows.{count_same}
use Rattle.game.specs.Access.{requirement_at}
use Rattle.barred_region.proofs.Settling.{passed_within, passed_none, passed_less, passed_same}
use Rattle.barred_region.proofs.pass.Goals as goal
use Rattle.barred_region.proofs.pass.Goals.{then-settle, else-settle}

pub loop-j-init : goal.loop-j-init
loop-j-init c = (omega arith, refl, passed_none _ _)

pub offset_bounds-q-j : goal.offset_bounds-q-j
offset_bounds-q-j c =
    omega (arith, (c.requires.0.requirement 0 (omega arith)).few_guaranteed)

pub bounds-q-j : goal.bounds-q-j
bounds-q-j c =
    omega (arith, (c.requires.0.requirement 0 (omega arith)).few_guaranteed)

pub settle-requires : goal.settle-requires
settle-requires c =
    (c.requires.0, omega (arith, c.requires.1, count_same c.loop-j.s c.args.s.now c.loop-j.invariant.1), passed_within _ _ _ _ _ c.loop-j.invariant.2 c.requires.2)

pub loop-j-preserved : goal.loop-j-preserved
loop-j-preserved c =
    let more : c.loop-j.j < (requirement_at c.args.g 0).guaranteed = omega arith in
    elim c.if-settle.branch [
      | then-settle w ↦ (
        omega arith,
        c.settle.auto.s
            ∙ c.loop-j.invariant.1,
        rw w.changed-is (passed_less _ _ c.loop-j.j _ _ c.loop-j.invariant.2 _ _ c.settle.ensures more w.if-settle.true),
      )
      | else-settle w ↦ (
        omega arith,
        c.settle.auto.s
            ∙ c.loop-j.invariant.1,
        rw w.changed-is (passed_same _ _ c.loop-j.j _ _ c.loop-j.invariant.2 _ _ c.settle.ensures more w.if-settle.false),
      )
    ]

pub shape_of-s : goal.shape_of-s
shape_of-s c = c.loop-j.invariant.1

pub returns : goal.returns
returns c =
    let e : c.loop-j.j ≡ (requirement_at c.args.g 0).guaranteed = omega arith in
    rw e at c.loop-j.invariant.2
