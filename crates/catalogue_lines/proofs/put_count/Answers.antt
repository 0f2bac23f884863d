-- `put_count` meets its contract.
use Rattle.text_put.proofs.Buffer.{puts_then, puts_as}
use Rattle.catalogue_lines.proofs.Lines.{count_pieces}
use Rattle.catalogue_lines.proofs.put_count.Goals as goal

pub returns : goal.returns
returns c =
    puts_as (count_pieces _ _)
    (puts_then c.put_opening-a.ensures (puts_then c.put_number_then-b.ensures c.put_byte.ensures))
