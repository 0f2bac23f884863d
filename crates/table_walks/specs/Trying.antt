-- A part of a round: the states that are still to be tried are a set `rest`.
--
--   Trying rows z c left l w x y r rest == from x to y the rows of the others that settle were written; r has these
use Rattle.std.specs.Prelude.{ℕ, ◌≤◌, ◌<◌, ◌≡◌, true, false, List, length}
use Rattle.bits.specs.Member.{has}
use Rattle.sets.specs.Words.{capacity, bits_of}
use Rattle.arena.specs.Table.{Answer}
use Rattle.graph_ways.specs.Search.{moves_into}
use Rattle.table_layout.specs.declared.Layout.{Layout}
use Rattle.table_layout.specs.Rows.{Rows, Filled}
use Rattle.table_walks.specs.declared.Stamp.{Stamp}
use Rattle.table_walks.specs.Walk.{Fair}

pub record Trying (rows : List ℕ) (z : Layout) (c left l : ℕ) (w : Stamp) (x y : List ℕ) (r rest : ℕ) : Type 0 where
  pub bound : z.states ≤ capacity
  pub member : (t : ℕ) → has rest t ≡ true → has left t ≡ true
  pub below : (t : ℕ) → has rest t ≡ true → t < z.states
  pub taken : (t : ℕ) → t < z.states → has rest t ≡ false → moves_into rows c left l t ≡ true → has r t ≡ true
  pub only : (t : ℕ) → has r t ≡ true → (t < z.states) × (moves_into rows c left l t ≡ true)
  pub long : length y ≡ length x
  pub fills : (f : ℕ → ℕ → ℕ → Answer) (E : List ℕ) → Rows z f E → Fair rows z c left l w f
      → Filled z E (λ s h b. (has rest s ≡ false) × (moves_into rows c left l s ≡ true) × (has w.which.0 h ≡ true) × (has (bits_of w.over.0) b ≡ true)) x y
