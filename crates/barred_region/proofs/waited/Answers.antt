-- `waited`.
use Prim.Native.Nat.{ℕ, suc, ◌-◌}
use mathlib.Core.Path.{◌≡◌, ap, subst}
use native.Mathlib.Omega.{arith}
use Rattle.game.specs.declared.InSet.{InSet}
use Rattle.sets.specs.Words.{bits_of}
use Rattle.barred_region.specs.Region.{Waits}
use Rattle.barred_region.proofs.Widening.{waits_first, waits_next}
use Rattle.barred_region.proofs.waited.Goals as goal

pub returns-then-j-eq0 : goal.returns-then-j-eq0
returns-then-j-eq0 c = rw c.if-j-eq0.true (waits_first _ _ c.below.ensures)

pub assumption-requires : goal.assumption-requires
assumption-requires c =
    (omega arith, omega (arith, c.requires.1, (c.requires.0.requirement 0 (omega arith)).few_assumed))

pub returns : goal.returns
returns c =
    let e : suc (c.args.j - 1) ≡ c.args.j = omega (arith, c.if-j-eq0.false) in
    subst (λ (k : ℕ). Waits c.args.g (bits_of c.assumption.result.0) k) e
    (waits_next _ (c.args.j - 1) _ (omega (arith, c.requires.1, c.if-j-eq0.false)) (ap (λ (x : InSet). bits_of x.0) c.assumption.ensures))
