-- `put_states` meets its contract. The invariant: what is left, with what is done, makes the whole.
use Prim.Native.Nat.{◌-◌, ◌≤◌, ◌<◌}
use mathlib.Core.Path.{◌≡◌}
use Rattle.sets.specs.Words.{capacity}
use Rattle.text_shape.specs.Text.{plain, state_lines}
use Rattle.text_put.proofs.Buffer.{Remains}
use Rattle.text_put.proofs.put_states.Given as goal

abbrev pub invariant-loop-s : goal.invariant-loop-s
invariant-loop-s l =
    Remains l.initial.buffer l.at (state_lines l.w l.n 0 (plain l.h)) l.buffer l.to (state_lines l.w (l.n - l.s) l.s (plain l.h))
    × (l.n ≤ capacity) × (l.w < 10) × (l.n ≡ l.h.states) × (l.initial' ≡ l.h.initial)
