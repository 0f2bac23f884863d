-- `inputs_of`.
use Prim.Native.Nat.{◌≤◌}
use mathlib.Core.Path.{◌≡◌}
use Rattle.bits.specs.Member.{pack}
use Rattle.joint.specs.Solver.{inputs_of}
use Rattle.play.specs.Play.{separated_of}
use Rattle.joined_component.specs.Component.{component}
use Rattle.joined_component.proofs.inputs_of.Given as goal

abbrev pub invariant-loop-i : goal.invariant-loop-i
invariant-loop-i l = (l.i ≤ l.fn.g.input.states) × (l.c ≡ pack l.i (inputs_of (separated_of l.fn.g) (component l.fn.g l.s)))
