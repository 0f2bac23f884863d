-- `plain` writes the rows of one output, leader by leader, unless all of them have a home in reach.
use Prim.Native.Nat.{ℕ, ◌≤◌, ◌<◌}
use mathlib.Core.Path.{◌≡◌}
use mathlib.Core.List.{List}
use Rattle.bits.specs.Member.{has}
use Rattle.sets.specs.Words.{bits_of, sets_in}
use Rattle.scratch.specs.Stored.{row_at, out_reach_at}
use Rattle.controller_rows.specs.declared.Size.{Size}
use Rattle.controller_rows.specs.Writes.{column_of, settles_at, Plain}
use Rattle.controller_opening.proofs.unsettled.plain.Given as goal

-- x tells of each input whether one of its homes is in reach, k being the inputs in nontrivial components
abbrev Told : List ℕ → Size → ℕ → ℕ → ℕ → Type 0
Told s z o x k = (j : ℕ) → j < z.inputs → has x j ≡ settles_at k j (row_at s z.inputs j) (out_reach_at s z.inputs o)

abbrev pub invariant-loop-j : goal.invariant-loop-j
invariant-loop-j l =
    (l.j ≤ l.z.inputs) × (column_of l.z l.j ≡ l.b)
    × ((k : ℕ) → Told (sets_in l.s) l.z l.o.0 (bits_of l.x.0) k → Plain l.z (sets_in l.s) k l.o.0 (bits_of l.moves.0) l.j l.initial.room l.room)
