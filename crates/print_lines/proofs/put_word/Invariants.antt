-- `put_word` meets its contract. The invariant: what is left, with what is done, makes the whole.
use lib.ListN.{length, drop}
use Prim.Native.Nat.{◌≤◌, ◌<◌}
use mathlib.Core.Path.{◌≡◌}
use Rattle.text_put.proofs.Buffer.{Remains}
use Rattle.text_shape.specs.Text.{word}
use Rattle.print_lines.proofs.put_word.Given as goal

abbrev pub invariant-loop-k : goal.invariant-loop-k
invariant-loop-k l =
    Remains l.initial.buffer l.at (word l.w) l.buffer l.to (drop l.k (word l.w)) × (l.k ≤ length (word l.w)) × (l.n ≡ length (word l.w)) × (l.w < 10)
