-- `put_header` meets its contract.
use Rattle.text_shape.proofs.LineTexts.{header_pieces}
use Rattle.text_put.proofs.Buffer.{puts_then, puts_as}
use Rattle.text_put.proofs.put_header.Goals as goal

pub returns : goal.returns
returns c =
    puts_as (header_pieces _ _ _) (puts_then c.put_opening-a.ensures (puts_then c.put_number_then-b.ensures
    (puts_then c.put_number_then-c.ensures (puts_then c.put_number_then-d.ensures c.put_byte.ensures))))
