-- `name_firsts` names each input that is the smallest of its component for the inputs of that component.
use Prim.Native.Nat.{◌≤◌}
use mathlib.Core.Path.{◌≡◌}
use Rattle.play.specs.Play.{separated_of}
use Rattle.compact_checks.specs.Firsts.{Named}
use Rattle.compact_checks.proofs.name_firsts.Given as goal

abbrev pub invariant-loop-j : goal.invariant-loop-j
invariant-loop-j l = (l.j ≤ l.n) × (l.n ≡ l.g.input.states) × Named (separated_of l.g) l.part l.count l.j l.firsts
