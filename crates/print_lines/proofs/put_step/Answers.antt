-- `put_step` meets its contract.
use Rattle.print_lines.proofs.Lines.{none_line, step_row}
use Rattle.text_put.proofs.Buffer.{puts_as}
use Rattle.print_lines.specs.Line.{step_line}
use Rattle.print_lines.proofs.put_step.Goals as goal

pub returns-then-entry-eq-NONE : goal.returns-then-entry-eq-NONE
unfolding step_line
returns-then-entry-eq-NONE c = none_line _ _ _ _ c.if-entry-eq-NONE.true

pub returns : goal.returns
returns c =
    puts_as (step_row _ _ _ _ _ _ c.if-entry-eq-NONE.false c.at_least_one-n.ensures c.at_least_one-m.ensures)
    c.put_row.ensures
