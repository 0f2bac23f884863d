-- `graph_of` goes through the modes.
use Prim.Native.Nat.{◌≤◌}
use mathlib.Core.Path.{◌≡◌}
use mathlib.Core.List.{◌++◌}
use lib.ListN.{length, drop, replicate}
use Rattle.sets.specs.Words.{capacity, row_words, words_of}
use Rattle.graphs.specs.Rows.{rows_of}
use Rattle.kit_drives.specs.Drive.{made_by}
use Rattle.kit_drives.proofs.graph_of.Given as goal

abbrev pub invariant-loop-m : goal.invariant-loop-m
invariant-loop-m l =
    (l.m ≤ capacity) × (length l.moves ≡ row_words) × (l.moves ≡ words_of (rows_of l.m l.d.modes (made_by l.d.next l.d.commands) ++ drop l.m (replicate capacity 0)))
