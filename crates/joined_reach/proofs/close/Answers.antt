-- `close`.
use Prim.Native.Nat.{◌+◌}
use mathlib.Core.Path.{◌∙◌}
use lib.ListN.{set}
use native.Mathlib.Nat.{zero-add}
use native.Mathlib.Omega.{arith}
use Rattle.finite.specs.But.{ButFor}
use Rattle.joined_reach.proofs.Rows.{begun_kept, followed_most, closed_start, closed_waiting, closed_more, closed_falls, closed_end}
use Rattle.joined_reach.proofs.close.Goals as goal

pub insert-requires : goal.insert-requires
insert-requires c =
    omega (arith, c.requires.0.outputs)

pub insert-requires-2 : goal.insert-requires-2
insert-requires-2 c =
    omega (arith, c.requires.0.inputs)

pub loop-waiting-init : goal.loop-waiting-init
loop-waiting-init c =
    rw zero-add
    (closed_start _ _ _ _ c.requires.1 c.requires.2 c.requires.0 c.requires.3 _ _ _ c.clear.ensures c.insert.ensures c.insert-2.ensures)

pub follow-waiting-requires : goal.follow-waiting-requires
follow-waiting-requires c =
    let kept : ButFor 0 64 c.args.s.now (set c.clear.new.s (0 + c.args.i.0) c.insert.result) = rw zero-add (begun_kept _ _ _ _ _ c.requires.1 c.requires.0 c.requires.3 c.clear.ensures) in
    let waits = closed_waiting _ _ _ _ _ _ c.loop-waiting.invariant in
    (c.requires.0, omega (arith, c.loop-waiting.invariant.kept.long, (kept).long), c.loop-waiting-test.true, waits, c.requires.4, c.requires.5)

pub loop-waiting-smaller : goal.loop-waiting-smaller
loop-waiting-smaller c =
    let e = c.follow-waiting in
    omega (
      arith,
      closed_falls _ _ _ _ c.loop-waiting.waiting.0 _ c.loop-waiting.invariant _ _ e.ensures c.requires.0 c.loop-waiting-test.true,
      followed_most c.args.g e.new.s,
    )

pub loop-waiting-preserved : goal.loop-waiting-preserved
loop-waiting-preserved c =
    closed_more _ _ _ _ c.loop-waiting.waiting.0 _ c.loop-waiting.invariant _ _ c.follow-waiting.ensures

pub shape_of-s : goal.shape_of-s
shape_of-s c =
    let kept : ButFor 0 64 c.args.s.now (set c.clear.new.s (0 + c.args.i.0) c.insert.result) = rw zero-add (begun_kept _ _ _ _ _ c.requires.1 c.requires.0 c.requires.3 c.clear.ensures) in
    c.loop-waiting.invariant.kept.long ∙ (kept).long

pub returns : goal.returns
returns c =
    let kept : ButFor 0 64 c.args.s.now (set c.clear.new.s (0 + c.args.i.0) c.insert.result) = rw zero-add (begun_kept _ _ _ _ _ c.requires.1 c.requires.0 c.requires.3 c.clear.ensures) in
    closed_end _ _ _ _ _ _ c.loop-waiting.invariant (kept) c.loop-waiting-test.false
