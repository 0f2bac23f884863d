-- `more_digits` meets its contract. The invariant: what is left, with what is done, makes the whole.
use mathlib.Core.Path.{◌≡◌}
use Prim.Native.Nat.{◌-◌, ◌<◌}
use Rattle.text_grammar.specs.Place.{bytes}
use Rattle.text_grammar.specs.Number.{digits_at}
use Rattle.text_pieces.proofs.more_digits.Given as goal

abbrev pub invariant-loop-turn : goal.invariant-loop-turn
invariant-loop-turn l =
    (digits_at 2 l.lo l.hi l.initial.value (bytes l.s) l.initial.at ≡ digits_at (2 - l._turn) l.lo l.hi l.value (bytes l.s) l.at)
    × (l.value < 1000)
