-- `reaching` collects the outputs below o.
use Prim.Native.Nat.{◌≤◌}
use mathlib.Core.Path.{◌≡◌}
use Rattle.bits.specs.Member.{pack}
use Rattle.sets.specs.Words.{bits_of, sets_in}
use Rattle.controller_homeward.specs.Homes.{reaches_at}
use Rattle.controller_homeward.proofs.reaching.Given as goal

abbrev pub invariant-loop-o : goal.invariant-loop-o
invariant-loop-o l = (l.o ≤ l.m) × (bits_of l.x ≡ pack l.o (reaches_at (sets_in l.s) l.n l.d.0))
