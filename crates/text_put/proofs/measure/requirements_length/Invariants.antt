-- `requirements_length` goes through the requirements.
use Prim.Native.Nat.{◌+◌, ◌*◌, ◌-◌, ◌≤◌}
use mathlib.Core.Path.{◌≡◌}
use lib.ListN.{length}
use Rattle.text_shape.specs.Text.{requirement_lines}
use Rattle.text_put.specs.Put.{Writable}
use Rattle.text_put.proofs.measure.requirements_length.Given as goal

abbrev pub invariant-loop-r : goal.invariant-loop-r
invariant-loop-r l =
    (l.r ≤ l.k) × (l.k ≤ 8) × (l.k ≡ l.g.k) × Writable l.g × (l.to ≤ 4140 * l.r)
    × (l.to + length (requirement_lines (l.k - l.r) l.r l.g.requirements) ≡ length (requirement_lines l.k 0 l.g.requirements))
