-- `begins`: the first of all inputs, one whose input before is not one of c, or one with another row.
use Prim.Native.Nat.{ℕ}
use mathlib.Core.Path.{sym, ◌∙◌, ap₂}
use lib.Dec.{eqb}
use native.Mathlib.Omega.{arith}
use Rattle.region_runs.proofs.Runs.{begins_first, begins_apart, begins_other}
use Rattle.region_runs.proofs.begins.Goals as goal

pub returns-then-j-eq0 : goal.returns-then-j-eq0
returns-then-j-eq0 c = begins_first _ _ _ _ (omega arith)

pub returns-then-not-member : goal.returns-then-not-member
returns-then-not-member c = begins_apart _ _ _ _ (sym c.member.ensures ∙ c.if-not-member.true)

pub returns : goal.returns
returns c =
    begins_other _ _ _ _ (λ z. absurd (omega (arith, z))) (sym c.member.ensures ∙ c.if-not-member.false)
    (c.same.ensures ∙ ap₂ (λ (x y : ℕ). eqb x y) c.region_row-last.ensures c.region_row-row.ensures)
