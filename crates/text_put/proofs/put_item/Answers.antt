-- `put_item` meets its contract.
use Rattle.text_put.proofs.Pieces.{gap_on, gap_off}
use Rattle.text_put.proofs.Buffer.{puts_then, puts_as}
use Rattle.text_put.proofs.put_item.Goals as goal

pub returns-then-gap : goal.returns-then-gap
returns-then-gap c =
    puts_as (gap_on _ _ c.if-gap.true) (puts_then c.put_byte-m.ensures c.put_set.ensures)

pub returns : goal.returns
returns c = puts_as (gap_off _ _ c.if-gap.false) c.put_set-2.ensures
