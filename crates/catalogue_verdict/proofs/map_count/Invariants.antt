-- `map_count` meets its contract.
use Prim.Native.Nat.{◌*◌, ◌≤◌}
use mathlib.Core.Path.{◌≡◌}
use Rattle.sets.specs.Words.{capacity, sets_in, set_count}
use Rattle.catalogue_verdict.specs.Judged.{marks}
use Rattle.catalogue_verdict.proofs.map_count.Given as goal

abbrev pub invariant-loop-i : goal.invariant-loop-i
invariant-loop-i l =
    (l.i ≤ l.n) × (l.c ≤ capacity * l.i) × (l.n ≤ set_count l.map) × (l.n ≤ capacity) × (l.m ≤ capacity) × (l.c ≡ marks (sets_in l.map) l.m l.i)
