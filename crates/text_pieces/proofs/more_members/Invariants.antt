-- `more_members` meets its contract. The invariant: what is left, with what is done, makes the whole.
use Prim.Native.Nat.{◌-◌, ◌≤◌}
use mathlib.Core.Path.{◌≡◌}
use Rattle.sets.specs.Words.{capacity, highest, bits_of, set_of}
use Rattle.text_shape.specs.Shape.{more_members}
use Rattle.text_grammar.specs.Place.{bytes}
use Rattle.text_grammar.specs.Format.{run}
use Rattle.text_pieces.proofs.more_members.Given as goal

abbrev pub invariant-loop-turn : goal.invariant-loop-turn
invariant-loop-turn l =
    (run (more_members highest l.initial.low (bits_of l.initial.set)) (bytes l.s) l.initial.at
    ≡ run (more_members (highest - l._turn) l.low (bits_of l.set)) (bytes l.s) l.at)
    × (l.low ≤ capacity) × (set_of (bits_of l.set) ≡ l.set)
