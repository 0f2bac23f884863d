-- `opening_at` meets its contract. The invariant: what is left, with what is done, makes the whole.
use mathlib.Core.Path.{refl, sym, ◌∙◌}
use native.Mathlib.Omega.{arith}
use Rattle.text_shape.proofs.WordTable.{word_short}
use Rattle.text_lines.proofs.LineSteps.{chars_turn, chars_miss, chars_end}
use Rattle.text_shape.proofs.Opening.{opening_length}
use Rattle.text_shape.specs.Shape.{opening}
use Rattle.text_grammar.proofs.Place.{byte_within}
use Rattle.text_pieces.proofs.Outcomes.{step_at, step_fault}
use Rattle.text_lines.proofs.opening_at.Goals as goal

pub overflow_add-n : goal.overflow_add-n
overflow_add-n c = omega (arith, c.letters-n.ensures, word_short c.args.w)

pub loop-k-init : goal.loop-k-init
loop-k-init c = (refl, omega (arith), omega (arith, c.letters-n.ensures, opening_length c.args.w), c.requires)

pub returns-then-byte_at-b : goal.returns-then-byte_at-b
returns-then-byte_at-b c =
    step_fault (chars_miss _ (opening c.args.w) c.loop-k.k _ _ _ c.loop-k.invariant.0
    (omega (arith, c.loop-k.invariant, c.loop-k-test.true)) c.opening_byte-b.ensures
    (λ e. c.if-byte_at-b.true (c.byte_at.ensures ∙ e)))

pub overflow_add-at : goal.overflow_add-at
overflow_add-at c = omega (arith, byte_within _ _ _ (sym c.byte_at.ensures ∙ c.if-byte_at-b.false) (omega (arith, c.opening_byte-b.type_inv)))

pub loop-k-preserved : goal.loop-k-preserved
loop-k-preserved c = (
  chars_turn _ (opening c.args.w) c.loop-k.k _ _ _ c.loop-k.invariant.0
      (omega (arith, c.loop-k.invariant, c.loop-k-test.true)) c.opening_byte-b.ensures
      (sym c.byte_at.ensures ∙ c.if-byte_at-b.false),
  omega (arith, c.loop-k.invariant, c.loop-k-test.true),
  c.loop-k.invariant.2,
  c.loop-k.invariant.3,
)

pub returns : goal.returns
returns c =
    step_at (chars_end _ (opening c.args.w) c.loop-k.k _ _ c.loop-k.invariant.0
    (omega (arith, c.loop-k.invariant, c.loop-k-test.false)))
