-- `guarantees_met` goes through the requirements.
use Prim.Native.Nat.{◌≤◌}
use mathlib.Core.Path.{◌≡◌}
use Rattle.sets.specs.Words.{bits_of}
use Rattle.bits.specs.Member.{pack}
use Rattle.table_goals.specs.Ranges.{met_in}
use Rattle.table_sizes.specs.Below.{guarantee_side, all_sets}
use Rattle.table_sizes.specs.Numbered.{Upto}
use Rattle.table_sizes.proofs.guarantees_met.Given as goal

abbrev pub invariant-loop-r : goal.invariant-loop-r
invariant-loop-r l = (l.r ≤ l.g.k) × (l.g.k ≤ 8) × Upto guarantee_side l.g l.r l.n × (l.q.0 ≡ pack l.n (met_in (all_sets guarantee_side l.g) (bits_of l.x.0)))
