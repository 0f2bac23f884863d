-- `put_pair` meets its contract.
use Rattle.text_put.proofs.Buffer.{puts_then, puts_as, two_digits}
use Rattle.text_put.proofs.put_pair.Goals as goal

pub returns : goal.returns
returns c =
    puts_as (two_digits _ c.requires.0 c.requires.1) (puts_then c.put_digit-m.ensures c.put_digit.ensures)
