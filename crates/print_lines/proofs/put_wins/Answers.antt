-- `put_wins` meets its contract.
use Rattle.print_lines.proofs.Lines.{winner_word_lem}
use Rattle.text_put.proofs.Buffer.{puts_then, puts_as}
use Rattle.print_lines.proofs.put_wins.Goals as goal

pub put_word-b-requires : goal.put_word-b-requires
put_word-b-requires c = (winner_word_lem _ _ c.winner-w.ensures).0

pub returns : goal.returns
returns c =
    puts_as (winner_word_lem _ _ c.winner-w.ensures).1
    (puts_then c.put_opening-a.ensures (puts_then c.put_word-b.ensures c.put_end.ensures))
