-- `put_environment_start` meets its contract.
use mathlib.Core.Path.{◌∙◌}
use Rattle.print_lines.specs.Line.{environment_start_line}
use Rattle.print_lines.proofs.Lines.{none_line, environment_text, environment_line}
use Rattle.text_put.proofs.Buffer.{puts_then, puts_as}
use Rattle.print_lines.proofs.put_environment_start.Goals as goal

pub returns-then-entry-eq-NONE : goal.returns-then-entry-eq-NONE
unfolding environment_start_line
returns-then-entry-eq-NONE c = none_line _ _ _ _ c.if-entry-eq-NONE.true

pub returns : goal.returns
returns c =
    puts_as (environment_text _ ∙ environment_line _ c.state-state.ensures c.if-entry-eq-NONE.false) (puts_then c.put_opening-a.ensures
    (puts_then c.put_number_then-b.ensures c.put_byte.ensures))
