-- `outputs_of`.
use Prim.Native.Nat.{ℕ, ◌≤◌}
use mathlib.Core.Path.{◌≡◌}
use Rattle.bits.specs.Member.{has}
use Rattle.joined_component.proofs.Tests.{outputs_below}
use Rattle.joined_component.proofs.outputs_of.Given as goal

abbrev pub invariant-loop-i : goal.invariant-loop-i
invariant-loop-i l = (l.i ≤ l.fn.g.input.states) × ((o : ℕ) → has l.c o ≡ outputs_below l.fn.g l.s l.i o)
