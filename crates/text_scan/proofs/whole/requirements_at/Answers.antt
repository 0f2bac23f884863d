-- `requirements_at` meets its contract. The invariant: what is left, with what is done, makes the whole.
use Rattle.text_pieces.proofs.Outcomes.{found_got, found_fault, found_value, fault_found, handed_on}
use Rattle.text_scan.proofs.WholeSteps.{requirements_bad, requirements_turn, requirements_end}
use Rattle.text_scan.proofs.whole.requirements_at.Goals as goal

pub returns-in_err-q : goal.returns-in_err-q
returns-in_err-q c =
    handed_on c.from_residual.ensures.1
    (found_fault _ (requirements_bad _ _ _ _ _ _ c.loop-t.invariant.0 c.loop-t-test.true _ (fault_found _ _ c.in_err-q.ensures)))

pub loop-t-preserved : goal.loop-t-preserved
loop-t-preserved c = (
  requirements_turn _ _ _ _ _ _ c.loop-t.invariant.0 c.loop-t-test.true _ _ (found_value _ c.in_ok-q.ensures),
  c.loop-t.invariant.1,
)

pub returns : goal.returns
returns c = found_got _ (requirements_end _ _ _ _ _ _ c.loop-t.invariant.0 c.loop-t-test.false)
