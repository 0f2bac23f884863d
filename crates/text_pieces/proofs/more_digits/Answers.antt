-- `more_digits` meets its contract. The invariant: what is left, with what is done, makes the whole.
use Prim.Native.Nat.{ℕ, ◌+◌, ◌-◌}
use mathlib.Core.Path.{◌≡◌, sym, ◌∙◌, ap}
use native.Mathlib.Omega.{arith}
use Rattle.text_grammar.specs.Number.{digits_at}
use Rattle.text_grammar.specs.Format.{Run}
use Rattle.text_pieces.specs.Pieces.{number_read}
use Rattle.text_grammar.proofs.Place.{byte_within}
use Rattle.text_grammar.proofs.Number.{digits_go, digits_stop, digits_done, extended_digit, extended_small}
use Rattle.text_pieces.proofs.more_digits.Goals.{else-loop-turn-test, then-loop-turn-test+then-not-extends}
use Rattle.text_pieces.proofs.more_digits.Goals as goal

-- one digit fewer is left
fewer : (x : Run ℕ) (n lo hi v : ℕ) (w : ℕ → ℕ) (j : ℕ) → x ≡ digits_at (2 - n - 1) lo hi v w j → x ≡ digits_at (2 - (n + 1)) lo hi v w j
fewer x n lo hi v w j e = let less : 2 - n - 1 ≡ 2 - (n + 1) = omega arith in e ∙ ap (λ (m : ℕ). digits_at m lo hi v w j) less

pub overflow_sub-value : goal.overflow_sub-value
overflow_sub-value c = (extended_digit _ _ _ _ (sym c.extends.ensures ∙ c.if-not-extends.false)).0

pub overflow_add-value : goal.overflow_add-value
overflow_add-value c = omega (arith, extended_digit _ _ _ _ (sym c.extends.ensures ∙ c.if-not-extends.false), c.loop-turn.invariant)

pub overflow_add-at : goal.overflow_add-at
overflow_add-at c =
    omega (
      arith,
      byte_within _ _ _ (sym c.byte_at-b.ensures)
          (omega (arith, extended_digit _ _ _ _ (sym c.extends.ensures ∙ c.if-not-extends.false))),
    )

pub loop-turn-preserved : goal.loop-turn-preserved
loop-turn-preserved c = (
  fewer _ _ _ _ _ _ _ (digits_go _ _ _ _ _ _ _ _ c.loop-turn.invariant.0 (omega (arith, c.loop-turn-test.true)) c.byte_at-b.ensures
      (sym c.extends.ensures ∙ c.if-not-extends.false)),
  omega (arith, extended_small _ _ _ _ (sym c.extends.ensures ∙ c.if-not-extends.false), c.requires),
)

pub returns : goal.returns
returns c =
    c.number_end.ensures ∙ elim c.loop-turn-test.branch [
      | else-loop-turn-test w ↦ sym (ap number_read (digits_done _ _ _ _ _ _ _ c.loop-turn.invariant.0 (omega (arith, w.loop-turn-test.false))))
      | then-loop-turn-test+then-not-extends w ↦ sym (ap number_read (digits_stop _ _ _ _ _ _ _ _ c.loop-turn.invariant.0
          w.byte_at-b.ensures (sym w.extends.ensures ∙ w.if-not-extends.true)))
    ]
