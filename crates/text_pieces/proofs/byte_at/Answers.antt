-- `byte_at` meets its contract.
use Rattle.text_grammar.proofs.Place.{bytes_in, bytes_past}
use Rattle.text_pieces.proofs.byte_at.Goals as goal

pub returns-then-i-s : goal.returns-then-i-s
returns-then-i-s c = bytes_in _ _ c.if-i-s.true

pub returns : goal.returns
returns c = bytes_past _ _ c.if-i-s.false
