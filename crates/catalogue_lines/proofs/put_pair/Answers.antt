-- `put_pair` meets its contract.
use Rattle.text_put.proofs.Buffer.{puts_then}
use Rattle.catalogue_lines.specs.Figures.{pair_text}
use Rattle.catalogue_lines.proofs.put_pair.Goals as goal

pub returns : goal.returns
unfolding pair_text
returns c =
    puts_then c.put_number_then-a.ensures
    (puts_then c.put_number_then-b.ensures c.put_byte.ensures)
