-- `put_row` meets its contract.
use mathlib.Core.Path.{◌∙◌}
use Rattle.print_lines.proofs.Lines.{row_text, row_line_lem}
use Rattle.text_put.proofs.Buffer.{puts_then, puts_as}
use Rattle.print_lines.proofs.put_row.Goals as goal

pub returns : goal.returns
returns c =
    puts_as (row_text _ _ _ _ _ ∙ row_line_lem _ _ _ _ c.state-state.ensures c.counter-counter.ensures)
    (puts_then c.put_opening-m.ensures
    (puts_then c.put_number_then-n.ensures
    (puts_then c.put_number_then-o.ensures
    (puts_then c.put_number_then-p.ensures
    (puts_then c.put_number_then-q.ensures
    (puts_then c.put_number_then-r.ensures c.put_byte.ensures))))))
