-- `count_found`.
use lib.ListN.{get_or}
use Prim.Native.Nat.{◌+◌, ◌≤◌}
use native.Mathlib.Nat.{zero-add}
use native.Mathlib.Omega.{arith}
use Rattle.finite.proofs.Bounded.{count_le}
use Rattle.bits.specs.Member.{has}
use Rattle.joined_reach.proofs.Counting.{counted_start, counted_more, counted_end}
use Rattle.joined_reach.proofs.count_found.Goals as goal

pub loop-i-init : goal.loop-i-init
loop-i-init c = (omega arith, omega arith, counted_start _ c.requires.0 _ c.requires.2)

pub overflow_add-n : goal.overflow_add-n
overflow_add-n c =
    let most : c.count-n.result ≤ 64 = omega (arith, c.count-n.ensures, count_le 64 (has (get_or c.args.s.now (0 + c.loop-i.i) 0))) in
    omega (arith, most, c.requires.0.inputs)

pub loop-i-preserved : goal.loop-i-preserved
loop-i-preserved c =
    let most : c.count-n.result ≤ 64 = omega (arith, c.count-n.ensures, count_le 64 (has (get_or c.args.s.now (0 + c.loop-i.i) 0))) in (
      omega arith,
      omega (arith, most),
      counted_more _ c.requires.0 _ c.requires.2 _ _ _ (omega arith) (simp zero-add at c.count-n.ensures) c.loop-i.invariant.2,
    )

pub returns : goal.returns
returns c = counted_end _ c.requires.0 _ c.requires.2 _ _ (omega arith) (omega arith)
    c.loop-i.invariant.2
