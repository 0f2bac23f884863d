-- `put_requirement`. Invariant: the first j sets of each side are written.
use Prim.Native.Nat.{◌-◌, ◌≤◌}
use Rattle.board.specs.Board.{SetsPut}
use Rattle.board.proofs.put_requirement.Given as goal

abbrev pub invariant-loop-j : goal.invariant-loop-j
invariant-loop-j l = (l.j ≤ 4) × SetsPut l.r l.j l.q l.initial.b l.b
