-- `opening_at` meets its contract. The invariant: what is left, with what is done, makes the whole.
use lib.ListN.{length, drop}
use Prim.Native.Nat.{◌≤◌, ◌<◌}
use mathlib.Core.Path.{◌≡◌}
use Rattle.text_shape.specs.Shape.{opening}
use Rattle.text_grammar.specs.Place.{bytes}
use Rattle.text_grammar.specs.Format.{run, chars}
use Rattle.text_lines.proofs.opening_at.Given as goal

abbrev pub invariant-loop-k : goal.invariant-loop-k
invariant-loop-k l =
    (run (chars (opening l.w)) (bytes l.s) l.i ≡ run (chars (drop l.k (opening l.w))) (bytes l.s) l.at) × (l.k ≤ length (opening l.w))
    × (l.n ≡ length (opening l.w)) × (l.w < 10)
