-- `nontrivial` collects the states with a move inside their component.
use mathlib.Core.Path.{◌≡◌}
use Prim.Native.Nat.{◌≤◌}
use Rattle.bits.specs.Member.{pack}
use Rattle.sets.specs.Words.{bits_of, sets_in}
use Rattle.graph_components.specs.Component.{nontrivial_at}
use Rattle.graph_components.proofs.nontrivial.Given as goal

abbrev pub invariant-loop-s : goal.invariant-loop-s
invariant-loop-s l = (l.s ≤ l.n) × (bits_of l.c ≡ pack l.s (nontrivial_at (sets_in l.moves) (sets_in l.rows) l.n))
