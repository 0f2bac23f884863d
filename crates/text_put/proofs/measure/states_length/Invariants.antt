-- `states_length` goes through the states.
use Prim.Native.Nat.{◌+◌, ◌*◌, ◌-◌, ◌≤◌, ◌<◌}
use mathlib.Core.Path.{◌≡◌}
use lib.ListN.{length}
use Rattle.sets.specs.Words.{capacity, sets_in}
use Rattle.text_shape.specs.Text.{PlainGraph, state_lines}
use Rattle.text_put.proofs.measure.states_length.Given as goal

abbrev pub invariant-loop-s : goal.invariant-loop-s
invariant-loop-s l =
    (l.s ≤ l.n) × (l.n ≤ capacity) × (l.w < 10) × (l.to ≤ 537 * l.s)
    × ((h : PlainGraph) → h.moves ≡ sets_in l.rows → l.to + length (state_lines l.w (l.n - l.s) l.s h) ≡ length (state_lines l.w l.n 0 h))
