-- `put_rows`. Invariant: the first i words are written.
use Prim.Native.Nat.{◌-◌, ◌≤◌}
use Rattle.board.proofs.Laying.{Rows}
use Rattle.board.proofs.put_rows.Given as goal

abbrev pub invariant-loop-i : goal.invariant-loop-i
invariant-loop-i l = (l.i ≤ 256) × Rows l.at l.i l.l l.initial.b l.b
