-- `positions`: the product of two counts fits.
use mathlib.Core.Path.{refl}
use native.Mathlib.Nat.{mul-le-mul}
use native.Mathlib.Omega.{arith}
use Rattle.explain_all.specs.All.{positions}
use Rattle.explain_all.proofs.positions.Goals as goal

pub overflow_mul-result : goal.overflow_mul-result
overflow_mul-result c = omega (arith, mul-le-mul c.requires.input.most c.requires.output.most)

pub returns : goal.returns
unfolding positions
returns c = refl
