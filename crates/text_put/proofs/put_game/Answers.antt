-- `put_game` meets its contract.
use native.Mathlib.Omega.{arith}
use Rattle.text_shape.specs.Text.{game_text}
use Rattle.text_put.proofs.Buffer.{puts_then}
use Rattle.text_put.proofs.put_game.Goals as goal

pub put_states-c-requires : goal.put_states-c-requires
put_states-c-requires c =
    (omega arith, c.requires.outputs)

pub returns : goal.returns
unfolding game_text
returns c =
    puts_then c.put_header-a.ensures (puts_then c.put_states-b.ensures (puts_then c.put_states-c.ensures c.put_requirements.ensures))
