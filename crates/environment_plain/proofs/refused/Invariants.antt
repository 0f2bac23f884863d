-- `refused` collects the inputs below j.
use Prim.Native.Nat.{◌≤◌}
use mathlib.Core.Path.{◌≡◌}
use Rattle.bits.specs.Member.{pack}
use Rattle.sets.specs.Words.{bits_of, sets_in}
use Rattle.environment_table.specs.Reading.{refused_at}
use Rattle.environment_plain.proofs.refused.Given as goal

abbrev pub invariant-loop-j : goal.invariant-loop-j
invariant-loop-j l =
    (l.j ≤ l.n) × (bits_of l.x ≡ pack l.j (refused_at (sets_in l.s) l.n l.m (bits_of l.inner.0) (bits_of l.set.0)))
