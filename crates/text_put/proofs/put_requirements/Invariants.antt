-- `put_requirements` meets its contract. The invariant: what is left, with what is done, makes the whole.
use Prim.Native.Nat.{◌-◌, ◌≤◌}
use mathlib.Core.Path.{◌≡◌}
use Rattle.text_put.specs.Put.{Writable}
use Rattle.text_shape.specs.Text.{requirement_lines}
use Rattle.text_put.proofs.Buffer.{Remains}
use Rattle.text_put.proofs.put_requirements.Given as goal

abbrev pub invariant-loop-r : goal.invariant-loop-r
invariant-loop-r l =
    Remains l.initial.buffer l.at (requirement_lines l.k 0 l.g.requirements) l.buffer l.to (requirement_lines (l.k - l.r) l.r l.g.requirements)
    × Writable l.g × (l.k ≡ l.g.k) × (l.k ≤ 8)
