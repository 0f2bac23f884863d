-- `put_byte` meets its contract.
use Rattle.text_put.proofs.Buffer.{put_in, put_past}
use Rattle.text_put.proofs.put_byte.Goals as goal

pub returns-then-at-buffer : goal.returns-then-at-buffer
returns-then-at-buffer c = put_in _ _ _ c.if-at-buffer.true

pub returns : goal.returns
returns c = put_past _ _ _ c.if-at-buffer.false
