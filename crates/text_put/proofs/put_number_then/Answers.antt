-- `put_number_then` meets its contract.
use Rattle.text_put.proofs.Buffer.{puts_then}
use Rattle.text_put.proofs.put_number_then.Goals as goal

pub returns : goal.returns
returns c =
    puts_then c.put_number-m.ensures c.put_byte.ensures
