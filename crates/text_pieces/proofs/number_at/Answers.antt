-- `number_at` meets its contract.
use mathlib.Core.Path.{sym, ◌∙◌, ap}
use native.Mathlib.Omega.{arith}
use borrow.Author.Rules.{rules}
use Rattle.text_pieces.proofs.Outcomes.{found_fault}
use Rattle.text_pieces.specs.Pieces.{number_read}
use Rattle.text_grammar.proofs.Place.{byte_within}
use Rattle.text_grammar.proofs.Number.{started_digit, number_first, number_never}
use Rattle.text_pieces.proofs.number_at.Goals as goal

pub overflow_add-i : goal.overflow_add-i
overflow_add-i c =
    omega (
      arith,
      byte_within _ _ _ (sym c.byte_at-b.ensures)
          (omega (arith, started_digit _ _ _ (sym c.starts.ensures ∙ c.if-starts.true))),
    )

pub overflow_sub-b : goal.overflow_sub-b
overflow_sub-b c = (started_digit _ _ _ (sym c.starts.ensures ∙ c.if-starts.true)).0

pub more_digits-requires : goal.more_digits-requires
more_digits-requires c = (search rules, omega (arith, started_digit _ _ _ (sym c.starts.ensures ∙ c.if-starts.true)))

pub returns-then-starts : goal.returns-then-starts
returns-then-starts c =
    c.more_digits.ensures ∙ sym (ap number_read (number_first _ _ _ _ _ c.byte_at-b.ensures
    (sym c.starts.ensures ∙ c.if-starts.true)))

pub returns : goal.returns
returns c = found_fault _ (number_never _ _ _ _ _ c.byte_at-b.ensures (sym c.starts.ensures ∙ c.if-starts.false))
