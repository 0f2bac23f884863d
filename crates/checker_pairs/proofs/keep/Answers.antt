-- `keep` meets its contract.
use Prim.Native.Nat.{ℕ, ◌≤◌}
use Rattle.checker_pairs.proofs.Keeping.{keep_start, keep_next}
use Rattle.checker_pairs.specs.Pairs.{Keep}
use mathlib.Core.Path.{◌≡◌, subst}
use native.Mathlib.Omega.{arith}
use Rattle.checker_pairs.proofs.keep.Goals as goal

antisym : {a b : ℕ} → a ≤ b → b ≤ a → a ≡ b
antisym l m = omega (arith, l, m)

pub loop-c-init : goal.loop-c-init
loop-c-init c = keep_start _ _ _ _ _ _ c.requires

pub outside-requires : goal.outside-requires
outside-requires c =
    let P = c.requires in
    (P.inputs, P.counters, P.output _ c.loop-c-test.true)

pub loop-c-preserved : goal.loop-c-preserved
loop-c-preserved c =
    keep_next _ _ _ _ _ _ _ c.loop-c.invariant c.requires.places c.loop-c-test.true _ c.outside.ensures

pub returns : goal.returns
returns c = subst (Keep _ _ _ _ _ _) (antisym c.loop-c.invariant.upto c.loop-c-test.false) c.loop-c.invariant
