-- `settle_all` goes through the homes.
use Prim.Native.Nat.{◌≤◌}
use Rattle.play.specs.Play.{separated_of}
use Rattle.controller_table.specs.Filled.{ControllerFilled, Below}
use Rattle.controller.proofs.settle_all.Given as goal

abbrev pub invariant-loop-d : goal.invariant-loop-d
invariant-loop-d l = (l.d ≤ l.m) × ControllerFilled (separated_of l.g) l.z (Below (separated_of l.g) l.d) l.initial.room l.room
