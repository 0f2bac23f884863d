-- `put_numbers` meets its contract.
use Prim.Native.Nat.{◌+◌, ◌*◌, ◌-◌, ◌≤◌}
use lib.ListN.{length}
use Rattle.text_put.proofs.Buffer.{Remains}
use Rattle.catalogue_lines.specs.Figures.{number_lines}
use Rattle.catalogue_lines.proofs.put_numbers.Given as goal

abbrev pub invariant-loop-r : goal.invariant-loop-r
invariant-loop-r l =
    Remains l.initial.buffer l.at (number_lines 256 0 l.numbers) l.buffer l.to (number_lines (256 - l.r) l.r l.numbers) × (l.r ≤ 256)
    × (length (number_lines 256 0 l.numbers) ≤ length (number_lines (256 - l.r) l.r l.numbers) + 60 * l.r)
