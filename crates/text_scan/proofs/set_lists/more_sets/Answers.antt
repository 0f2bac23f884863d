-- `more_sets` meets its contract. The invariant: what is left, with what is done, makes the whole.
use lib.ListN.{length-set}
use mathlib.Core.Path.{refl, sym, ◌∙◌}
use native.Mathlib.Omega.{arith}
use Rattle.text_scan.proofs.SetListSteps.{list_got, sets_closed, sets_wrong, sets_full, sets_last}
use Rattle.text_scan.proofs.SetListSteps.{sets_bad, sets_turn, sets_first, set_whole, first_whole}
use Rattle.sets.proofs.Rows.{set_is}
use Rattle.text_grammar.proofs.Place.{byte_within}
use Rattle.text_pieces.proofs.Outcomes.{found_fault, fault_found, members_set, handed_on}
use Rattle.text_scan.proofs.set_lists.more_sets.Goals as goal

pub loop-count-init : goal.loop-count-init
loop-count-init c =
    (sets_first _ _ _ _ c.empty-none.ensures.1, omega arith, refl, first_whole _ _ (set_is _ (omega arith)) (set_is _ (omega (arith, c.empty-none.type_inv))))

pub overflow_add-result : goal.overflow_add-result
overflow_add-result c = omega (arith, byte_within _ _ _ (sym c.byte_at-b.ensures ∙ c.if-b-eq-CLOSE.true) (omega arith))

pub returns-then-b-eq-CLOSE : goal.returns-then-b-eq-CLOSE
returns-then-b-eq-CLOSE c = list_got c.loop-count.invariant.3 (sets_closed _ _ _ _ _ c.loop-count.invariant.0 (sym c.byte_at-b.ensures ∙ c.if-b-eq-CLOSE.true))

pub returns-then-b-ne-BLANK : goal.returns-then-b-ne-BLANK
returns-then-b-ne-BLANK c =
    found_fault _ (sets_wrong _ _ _ _ _ c.loop-count.invariant.0
    (λ e. c.if-b-eq-CLOSE.false (c.byte_at-b.ensures ∙ e))
    (λ e. c.if-b-ne-BLANK.true (c.byte_at-b.ensures ∙ e)))

pub overflow_add-at : goal.overflow_add-at
overflow_add-at c = omega (arith, byte_within _ _ _ (sym c.byte_at-b.ensures ∙ c.if-b-ne-BLANK.false) (omega arith))

pub returns-in_err-y : goal.returns-in_err-y
returns-in_err-y c =
    handed_on c.from_residual.ensures.1
    (found_fault _ (sets_bad _ _ _ _ _ c.loop-count.invariant.0 (omega (arith, c.loop-count-test.true))
    (sym c.byte_at-b.ensures ∙ c.if-b-ne-BLANK.false) _ (fault_found _ _ c.in_err-y.ensures)))

pub loop-count-preserved : goal.loop-count-preserved
loop-count-preserved c =
    let read = members_set _ c.in_ok-y.ensures in (
      sets_turn _ c.loop-count.list _ _ _ c.loop-count.invariant.0 c.loop-count-test.true
          (sym c.byte_at-b.ensures ∙ c.if-b-ne-BLANK.false) _ _ read.0,
      omega (arith, c.loop-count-test.true),
      simp length-set c.loop-count.invariant.2,
      set_whole c.loop-count.list _ _ c.loop-count.invariant.3 read.1,
    )

pub returns-then-byte_at-ne-CLOSE : goal.returns-then-byte_at-ne-CLOSE
returns-then-byte_at-ne-CLOSE c =
    found_fault _ (sets_full _ _ _ _ _ c.loop-count.invariant.0
    (omega (arith, c.loop-count.invariant, c.loop-count-test.false))
    (λ e. c.if-byte_at-ne-CLOSE.true (c.byte_at.ensures ∙ e)))

pub overflow_add-result-2 : goal.overflow_add-result-2
overflow_add-result-2 c = omega (arith, byte_within _ _ _ (sym c.byte_at.ensures ∙ c.if-byte_at-ne-CLOSE.false) (omega arith))

pub returns : goal.returns
returns c =
    list_got c.loop-count.invariant.3 (sets_last _ _ _ _ _ c.loop-count.invariant.0
    (omega (arith, c.loop-count.invariant.1, c.loop-count-test.false))
    (sym c.byte_at.ensures ∙ c.if-byte_at-ne-CLOSE.false))
