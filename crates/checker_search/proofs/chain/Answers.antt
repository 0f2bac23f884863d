-- `chain` meets its contract.
use Rattle.checker_search.proofs.Ways.{chaining_start, chaining_finder, chaining_on, chaining_end}
use native.Mathlib.Omega.{arith}
use Rattle.checker_search.proofs.chain.Goals as goal

pub loop-k-init : goal.loop-k-init
loop-k-init c = chaining_start _ _ _ c.args.out.now c.requires.0 c.requires.2

pub offset_bounds-from-k-in-loop-k : goal.offset_bounds-from-k-in-loop-k
offset_bounds-from-k-in-loop-k c = let I = c.loop-k.invariant in omega (arith, I.room, I.some)

pub bounds-from-k-in-loop-k : goal.bounds-from-k-in-loop-k
bounds-from-k-in-loop-k c = let I = c.loop-k.invariant in omega (arith, I.room, I.some)

pub overflow_sub-i : goal.overflow_sub-i
overflow_sub-i c =
    let I = c.loop-k.invariant in omega (
      arith,
      I.room,
      chaining_finder _ _ _ _ _ _ I
          c.requires.1 c.loop-k-test.true,
    )

pub bounds-queue-k-in-loop-k : goal.bounds-queue-k-in-loop-k
bounds-queue-k-in-loop-k c =
    let I = c.loop-k.invariant in omega (
      arith,
      I.room,
      I.some,
      c.from-k.ensures,
      chaining_finder _ _ _ _ _ _ I
          c.requires.1 c.loop-k-test.true,
    )

pub loop-k-smaller : goal.loop-k-smaller
loop-k-smaller c =
    let I = c.loop-k.invariant in omega (
      arith,
      c.from-k.ensures,
      chaining_finder _ _ _ _ _ _ I
          c.requires.1 c.loop-k-test.true,
    )

pub loop-k-preserved : goal.loop-k-preserved
loop-k-preserved c =
    chaining_on _ _ _ _ _ _ c.loop-k.invariant c.requires.1
    c.loop-k-test.true _ c.from-k.ensures

pub returns : goal.returns
returns c = chaining_end _ _ _ _ _ _ c.loop-k.invariant c.requires.1 c.loop-k-test.false
