-- `bracketed` meets its contract.
use native.Mathlib.Omega.{arith}
use Rattle.text_put.proofs.Lengths.{bracket_length}
use Rattle.text_put.proofs.measure.bracketed.Goals as goal

pub returns-then-n-eq0 : goal.returns-then-n-eq0
returns-then-n-eq0 c = λ ws e. omega (arith, bracket_length ws, c.if-n-eq0.true, e)

pub returns : goal.returns
returns c = λ ws e. omega (arith, bracket_length ws, c.if-n-eq0.false, e)
