-- `reaching` collects the outputs below o.
use Prim.Native.Nat.{◌≤◌}
use mathlib.Core.Path.{◌≡◌}
use Rattle.bits.specs.Member.{pack}
use Rattle.sets.specs.Words.{bits_of, sets_in}
use Rattle.scratch.specs.Stored.{reaching_at}
use Rattle.scratch.proofs.reaching.Given as goal

abbrev pub invariant-loop-o : goal.invariant-loop-o
invariant-loop-o l = (l.o ≤ l.m) × (bits_of l.y ≡ pack l.o (reaching_at (sets_in l.s) l.n (bits_of l.x.0)))
