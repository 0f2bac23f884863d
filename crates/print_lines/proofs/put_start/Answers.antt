-- `put_start` meets its contract.
use mathlib.Core.Path.{◌∙◌}
use Rattle.print_lines.specs.Line.{start_line}
use Rattle.print_lines.proofs.Lines.{none_line, start_text, start_line_lem}
use Rattle.text_put.proofs.Buffer.{puts_then, puts_as}
use Rattle.print_lines.proofs.put_start.Goals as goal

pub returns-then-entry-eq-NONE : goal.returns-then-entry-eq-NONE
unfolding start_line
returns-then-entry-eq-NONE c = none_line _ _ _ _ c.if-entry-eq-NONE.true

pub returns : goal.returns
returns c =
    puts_as (start_text _ _ ∙ start_line_lem _ _ c.state-state.ensures c.if-entry-eq-NONE.false) (puts_then c.put_opening-a.ensures
    (puts_then c.put_number_then-b.ensures (puts_then c.put_number_then-c.ensures c.put_byte.ensures)))
