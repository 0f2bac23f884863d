-- `more_sets` meets its contract. The invariant: what is left, with what is done, makes the whole.
use lib.ListN.{length, get_or}
use Prim.Native.Nat.{◌≤◌, ◌-◌}
use mathlib.Core.Path.{◌≡◌}
use Rattle.sets.specs.Words.{bits_of, no_states}
use Rattle.text_scan.specs.Scan.{numbers_of, sets_with}
use Rattle.text_shape.specs.Shape.{more_sets, push, no_sets}
use Rattle.text_grammar.specs.Place.{bytes}
use Rattle.text_grammar.specs.Format.{run}
use Rattle.text_scan.proofs.set_lists.more_sets.Given as goal

abbrev pub invariant-loop-count : goal.invariant-loop-count
invariant-loop-count l =
    (run (more_sets 3 (push no_sets (bits_of (get_or l.initial.list 0 no_states)))) (bytes l.s) l.initial.at
    ≡ run (more_sets (4 - l.count) (record { words = numbers_of l.list; count = l.count })) (bytes l.s) l.at)
    × (l.count ≤ 4) × (length l.list ≡ 4) × (sets_with (numbers_of l.list) ≡ l.list)
