-- `put_starts` meets its contract. The invariant: the starts so far are written.
use Prim.Native.Nat.{◌≤◌}
use lib.ListN.{length}
use Rattle.text_put.specs.Put.{Puts}
use Rattle.print_tables.specs.Print.{start_lines}
use Rattle.print_tables.proofs.put_starts.Given as goal

abbrev pub invariant-loop-i : goal.invariant-loop-i
invariant-loop-i l = Puts l.initial.buffer l.at (start_lines l.i 0 l.table) l.to l.buffer × (l.i ≤ l.n) × (l.n ≤ length l.table)
