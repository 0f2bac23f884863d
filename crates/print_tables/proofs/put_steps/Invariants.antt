-- `put_steps` meets its contract. The invariant: the rows so far are written.
use Prim.Native.Nat.{◌-◌, ◌≤◌}
use lib.ListN.{length}
use mathlib.Core.Path.{◌≡◌}
use Rattle.text_put.specs.Put.{Puts}
use Rattle.print_tables.specs.Print.{step_lines}
use Rattle.print_tables.proofs.put_steps.Given as goal

abbrev pub invariant-loop-k : goal.invariant-loop-k
invariant-loop-k l =
    Puts l.initial.buffer l.at (step_lines l.k 0 l.sets l.last l.first l.table) l.to l.buffer × (l.k ≤ l.n) × (l.n ≡ length l.table - l.first)
    × (l.first ≤ length l.table)
