-- `starts` meets its contract.
use native.Mathlib.Omega.{arith}
use mathlib.Core.Path.{sym, ◌∙◌}
use Rattle.text_grammar.proofs.Number.{digit_bounds, starts_by, starts_not}
use Rattle.text_pieces.proofs.starts.Goals as goal

pub overflow_sub-b : goal.overflow_sub-b
overflow_sub-b c = (digit_bounds _ (sym c.is_digit.ensures ∙ c.if-is_digit.true)).0

pub begins-requires : goal.begins-requires
begins-requires c = omega (arith, digit_bounds _ (sym c.is_digit.ensures ∙ c.if-is_digit.true))

pub returns-then-is_digit : goal.returns-then-is_digit
returns-then-is_digit c = c.begins.ensures ∙ sym (starts_by _ _ _ (sym c.is_digit.ensures ∙ c.if-is_digit.true))

pub returns : goal.returns
returns c = sym (starts_not _ _ _ (sym c.is_digit.ensures ∙ c.if-is_digit.false))
