-- `put_won` meets its contract.
use Rattle.text_put.proofs.Buffer.{puts_then, puts_as}
use Rattle.catalogue_lines.proofs.Lines.{won_opening, won_pieces}
use Rattle.catalogue_lines.proofs.put_won.Goals as goal

pub returns : goal.returns
unfolding won_opening
returns c =
    puts_as (won_pieces _ _) (puts_then c.put_text-a.ensures c.put_pair.ensures)
