-- `put_text` meets its contract.
use Prim.Native.Nat.{◌≤◌}
use lib.ListN.{length, drop}
use Rattle.text_put.proofs.Buffer.{Remains}
use Rattle.catalogue_lines.proofs.put_text.Given as goal

abbrev pub invariant-loop-k : goal.invariant-loop-k
invariant-loop-k l = Remains l.initial.buffer l.at l.text l.buffer l.to (drop l.k l.text) × (l.k ≤ length l.text)
