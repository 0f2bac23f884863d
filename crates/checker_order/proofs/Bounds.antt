-- Indices that stay in their arrays.
--
--   row_in, input_in    : where a place's input is kept
use Prim.Native.Nat.{ℕ, ◌/◌, ◌%◌, ◌≤◌, ◌<◌}
use native.Mathlib.Nat.{mod-lt, div-le_self}
use mathlib.Core.List.{List}
use native.Mathlib.Omega.{arith}
use lib.ListN.{length}
use Rattle.sets.specs.Words.{capacity, set_count, words_for}
use Rattle.sets.proofs.Rows.{words_held}

pub row_in : (c i : ℕ) (l : List ℕ) → c < 4096 → words_for 4096 ≤ length l → c / i < set_count l
row_in c i l b h = omega (arith, div-le_self c i, words_held l 4096 h)

pub input_in : (c i : ℕ) → 0 < i → i ≤ capacity → c % i < capacity
input_in c i b h = omega (arith, mod-lt c b)
