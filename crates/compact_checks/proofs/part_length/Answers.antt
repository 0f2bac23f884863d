-- `part_length`.
use native.Mathlib.Omega.{arith}
use mathlib.Core.Logic.{inl, inr}
use mathlib.Core.Path.{refl}
use Rattle.compact_checks.proofs.part_length.Goals as goal

pub returns-then-n-lt-PART : goal.returns-then-n-lt-PART
returns-then-n-lt-PART c = (omega (arith, c.if-n-lt-PART.true), omega arith, inr refl)

pub returns : goal.returns
returns c = (omega arith, omega (arith, c.if-n-lt-PART.false), inl refl)
