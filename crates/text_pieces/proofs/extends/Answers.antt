-- `extends` meets its contract.
use mathlib.Core.Path.{sym, ◌∙◌}
use native.Mathlib.Omega.{arith}
use Rattle.text_grammar.proofs.Number.{digit_bounds, extends_zero, extends_by, extends_digit}
use Rattle.text_pieces.proofs.extends.Goals as goal

pub returns-then-front-eq0 : goal.returns-then-front-eq0
returns-then-front-eq0 c = sym (extends_zero _ _ _ _ c.if-front-eq0.true)

pub overflow_sub-b : goal.overflow_sub-b
overflow_sub-b c = (digit_bounds _ (sym c.is_digit.ensures ∙ c.if-is_digit.true)).0

pub overflow_add-front : goal.overflow_add-front
overflow_add-front c = omega (arith, digit_bounds _ (sym c.is_digit.ensures ∙ c.if-is_digit.true), c.requires)

pub begins-requires : goal.begins-requires
begins-requires c = omega (arith, digit_bounds _ (sym c.is_digit.ensures ∙ c.if-is_digit.true), c.requires)

pub returns-then-is_digit : goal.returns-then-is_digit
returns-then-is_digit c =
    c.begins.ensures ∙ sym (extends_by _ _ _ _ c.if-front-eq0.false (sym c.is_digit.ensures ∙ c.if-is_digit.true))

pub returns : goal.returns
returns c = sym (extends_digit _ _ _ _ (sym c.is_digit.ensures ∙ c.if-is_digit.false))
