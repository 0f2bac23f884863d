-- `put_state` meets its contract.
use Rattle.text_put.proofs.Pieces.{state_pieces}
use Rattle.text_put.proofs.Buffer.{puts_then, puts_as}
use Rattle.text_put.proofs.put_state.Goals as goal

pub returns : goal.returns
returns c =
    puts_as (state_pieces _ _ _ _) (puts_then c.put_opening-a.ensures (puts_then c.put_number_then-b.ensures
    (puts_then c.put_number_then-c.ensures (puts_then c.put_set-d.ensures c.put_end.ensures))))
