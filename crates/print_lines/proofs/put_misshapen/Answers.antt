-- `put_misshapen` meets its contract.
use Rattle.print_lines.proofs.Lines.{misshapen_pieces}
use Rattle.text_put.proofs.Buffer.{puts_then, puts_as}
use Rattle.print_lines.proofs.put_misshapen.Goals as goal

pub returns : goal.returns
returns c =
    puts_as (misshapen_pieces _) (puts_then c.put_opening-a.ensures
    (puts_then c.put_number_then-b.ensures (puts_then c.put_number_then-c.ensures c.put_byte.ensures)))
