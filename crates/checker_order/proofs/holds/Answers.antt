-- `holds` meets its contract.
use native.Mathlib.Omega.{arith}
use Prim.Native.Nat.{ℕ}
use mathlib.Core.Path.{◌≡◌}
use borrow.Author.Tests.{eqb-true}
use Rattle.checker_order.proofs.holds.Goals as goal

pub returns-then-p-places : goal.returns-then-p-places
returns-then-p-places c = λ e. absurd (let z : ◌≡◌ {A = ℕ} 0 1 = cc in omega arith)

pub returns : goal.returns
returns c = λ e. record { below = omega arith; inside = eqb-true _ _ e }
