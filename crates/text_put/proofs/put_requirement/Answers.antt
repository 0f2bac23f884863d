-- `put_requirement` meets its contract.
use Rattle.text_put.proofs.Pieces.{requirement_pieces}
use Rattle.text_put.proofs.Buffer.{puts_then, puts_as}
use Rattle.text_put.proofs.put_requirement.Goals as goal

pub returns : goal.returns
returns c =
    puts_as (requirement_pieces _) (puts_then c.put_opening-a.ensures (puts_then c.put_assumptions-b.ensures
    (puts_then c.put_byte-c.ensures (puts_then c.put_guarantees-d.ensures c.put_end.ensures))))
