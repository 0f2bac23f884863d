-- `put_end` meets its contract.
use Rattle.text_put.proofs.Buffer.{puts_then}
use Rattle.text_put.proofs.put_end.Goals as goal

pub returns : goal.returns
returns c =
    puts_then c.put_byte-m.ensures c.put_byte.ensures
