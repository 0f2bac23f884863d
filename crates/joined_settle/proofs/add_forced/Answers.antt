-- `add_forced`.
use Prim.Native.Nat.{◌+◌}
use mathlib.Core.Path.{sym, ◌∙◌}
use native.Mathlib.Omega.{arith}
use Rattle.finite.proofs.Truth.{and_left}
use Rattle.joined_settle.proofs.Replies.{row_within}
use Rattle.joined_settle.proofs.Growth.{GrowingTo, growing_start, growing_same, growing_more, growing_end}
use Rattle.joined_settle.proofs.add_forced.Goals as goal
use Rattle.joined_settle.proofs.add_forced.Goals.{then-new-ne0, else-new-ne0}

pub loop-i-init : goal.loop-i-init
loop-i-init c = (omega arith, c.requires.0.inputs, c.requires.1, growing_start _ c.requires.0 _ c.requires.2)

pub forcing-new-requires : goal.forcing-new-requires
forcing-new-requires c = (
  c.requires.0,
  omega (arith, c.loop-i-test.true),
  c.loop-i.invariant.2,
  λ o h. row_within _ _ c.loop-i.invariant.3.growing.whole c.loop-i.i (omega (arith, c.loop-i-test.true)) o
      (and_left _ _ (sym (c.difference-here.ensures o) ∙ h)),
  c.requires.3,
  c.requires.4,
)

pub loop-i-preserved : goal.loop-i-preserved
loop-i-preserved c =
    let f = c.forcing-new in
    let d = c.difference-here in
    let u : GrowingTo c.args.g (c.loop-i.i + 1) c.args.s.now c.if-new-ne0.s c.if-new-ne0.added = elim c.if-new-ne0.branch [
      | then-new-ne0 w ↦ rw (w.s-is, w.added-is)
          (growing_more _ c.requires.0 _ c.loop-i.i _ _ c.loop-i.invariant.3 c.loop-i-test.true f.result.0 d.result f.ensures d.ensures
          c.loop-i.invariant.2 _ w.union.ensures w.if-new-ne0.true)
      | else-new-ne0 w ↦ rw (w.s-is, w.added-is)
          (growing_same _ c.requires.0 _ c.loop-i.i _ _ c.loop-i.invariant.3 c.loop-i-test.true f.result.0 d.result f.ensures d.ensures
          w.if-new-ne0.false)
    ] in
    (omega (arith, c.loop-i-test.true), c.loop-i.invariant.1, omega (arith, u.swept.kept.long, c.requires.1), u)

pub shape_of-s : goal.shape_of-s
shape_of-s c = c.loop-i.invariant.3.swept.kept.long

pub returns : goal.returns
returns c = growing_end _ c.requires.0 _ c.loop-i.i _ _ (omega arith) c.loop-i.invariant.3
