-- `scan` meets its contract.
use Rattle.checker_reach.proofs.Gaps.{clean_start, clean_found, clean_next, clean_end}
use native.Mathlib.Omega.{arith}
use Rattle.checker_reach.proofs.scan.Goals as goal

pub loop-k-init : goal.loop-k-init
loop-k-init c = clean_start _ _ _ _ _

pub none_after-requires : goal.none_after-requires
none_after-requires c = (
  c.requires.0,
  omega (
    arith,
    c.from.ensures,
    c.requires.1.below _
        c.loop-k-test.true,
  ),
)

pub returns-in-Some : goal.returns-in-Some
returns-in-Some c =
    clean_found _ _ _ _ _ _ c.loop-k.invariant c.loop-k-test.true _
    c.from.ensures _ c.in-Some.ensures

pub loop-k-preserved : goal.loop-k-preserved
loop-k-preserved c =
    clean_next _ _ _ _ _ _ c.loop-k.invariant c.loop-k-test.true _
    c.from.ensures c.in_default.ensures

pub returns : goal.returns
returns c = clean_end _ _ _ _ _ _ c.loop-k.invariant c.loop-k-test.false
