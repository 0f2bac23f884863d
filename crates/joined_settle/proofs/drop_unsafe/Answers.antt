-- `drop_unsafe`.
use Prim.Native.Nat.{◌+◌}
use mathlib.Core.Path.{sym, ◌∙◌}
use native.Mathlib.Omega.{arith}
use Rattle.finite.proofs.Truth.{and_left}
use Rattle.joined_settle.proofs.Replies.{row_within}
use Rattle.joined_settle.proofs.Loss.{ShrinkingTo, shrinking_start, shrinking_same, shrinking_more, shrinking_end}
use Rattle.joined_settle.proofs.drop_unsafe.Goals as goal
use Rattle.joined_settle.proofs.drop_unsafe.Goals.{then-unsafe_here-ne0, else-unsafe_here-ne0}

pub loop-i-init : goal.loop-i-init
loop-i-init c = (omega arith, c.requires.0.inputs, c.requires.1, shrinking_start _ c.requires.0 _ c.requires.2)

pub forcing-safe-requires : goal.forcing-safe-requires
forcing-safe-requires c = (
  c.requires.0,
  omega (arith, c.loop-i-test.true),
  c.loop-i.invariant.2,
  λ o h. row_within _ _ c.loop-i.invariant.3.shrinking.whole c.loop-i.i (omega (arith, c.loop-i-test.true)) o
      (and_left _ _ (sym (c.intersection-here.ensures o) ∙ h)),
  c.requires.3,
  c.requires.4,
)

pub loop-i-preserved : goal.loop-i-preserved
loop-i-preserved c =
    let x = c.intersection-here in
    let y = c.forcing-safe in
    let d = c.difference-unsafe_here in
    let t : ShrinkingTo c.args.g (c.loop-i.i + 1) c.args.s.now c.if-unsafe_here-ne0.s c.if-unsafe_here-ne0.dropped = elim c.if-unsafe_here-ne0.branch [
      | then-unsafe_here-ne0 w ↦ rw (w.s-is, w.dropped-is)
          (shrinking_more _ c.requires.0 _ c.loop-i.i _ _ c.loop-i.invariant.3 c.loop-i-test.true d.result x.result y.result.0 x.ensures y.ensures
          d.ensures c.loop-i.invariant.2 _ w.difference.ensures w.if-unsafe_here-ne0.true)
      | else-unsafe_here-ne0 w ↦ rw (w.s-is, w.dropped-is)
          (shrinking_same _ c.requires.0 _ c.loop-i.i _ _ c.loop-i.invariant.3 c.loop-i-test.true d.result x.result y.result.0 x.ensures y.ensures
          d.ensures w.if-unsafe_here-ne0.false)
    ] in
    (omega (arith, c.loop-i-test.true), c.loop-i.invariant.1, omega (arith, t.swept.kept.long, c.requires.1), t)

pub shape_of-s : goal.shape_of-s
shape_of-s c = c.loop-i.invariant.3.swept.kept.long

pub returns : goal.returns
returns c = shrinking_end _ c.requires.0 _ c.loop-i.i _ _ (omega arith) c.loop-i.invariant.3
