-- A walk by the shortest way that writes rows as it finds the moves. l is the set of the states reached before a round, left the set of the states that
-- have no move yet.
--
--   first_entry w p               == what a move to p writes, without its share of the counter
--   Stamps z w                   == the counters are those of the layout, and few, so that all entries fit 16 bits
--   Fair rows z c left l w f     == rows f hold what a round writes
--   Settled rows z c left l w x y r == a round that takes the buffer x to y and settles the states r
--   Ground n c target own        == own and the target cover the set c, and are below n
--   Leading rows z c target own w f == rows f hold the moves towards the target
--   Walks rows z c target own w x y == from x to y the rows of the states of own with a way were written, in any list that ends in such rows
use Rattle.std.specs.Prelude.{ℕ, ◌+◌, ◌*◌, ◌≤◌, ◌<◌, ◌≡◌, true, false, List, length}
use Rattle.bits.specs.Member.{has, within, pack}
use Rattle.sets.specs.Words.{capacity, bits_of}
use Rattle.graphs.specs.Way.{prefer, toward}
use Rattle.graphs.proofs.Way.{Leads}
use Rattle.arena.specs.Table.{Answer, gives}
use Rattle.theory.specs.Entries.{stride, entry}
use Rattle.table_counters.specs.Counters.{most_counters}
use Rattle.graph_ways.specs.Kept.{kept}
use Rattle.graph_ways.specs.Search.{choices, moves_into}
use Rattle.table_layout.specs.declared.Layout.{Layout}
use Rattle.table_layout.specs.Rows.{Rows, Filled}
use Rattle.table_walks.specs.declared.Stamp.{Stamp}

unfoldable pub first_entry : Stamp → ℕ → ℕ
first_entry w p = elim (has (bits_of w.goal.0) p) [ true ↦ entry (gives w.hit p) | false ↦ entry (gives w.miss p) ]

pub record Stamps (z : Layout) (w : Stamp) : Type 0 where
  pub counters : (h : ℕ) → has w.which.0 h ≡ true → h < z.counters
  pub hit : w.hit < most_counters
  pub miss : w.miss < most_counters
  pub more : w.more ≤ stride

pub record Fair (rows : List ℕ) (z : Layout) (c left l : ℕ) (w : Stamp) (f : ℕ → ℕ → ℕ → Answer) : Type 0 where
  pub entry : (s h b : ℕ) → s < z.states → moves_into rows c left l s ≡ true → has w.which.0 h ≡ true → b < z.width → has (bits_of w.over.0) b ≡ true
      → first_entry w (prefer capacity s (has (choices rows c left l s))) + w.more * h ≡ entry (f s h b)

pub record Settled (rows : List ℕ) (z : Layout) (c left l : ℕ) (w : Stamp) (x y : List ℕ) (r : ℕ) : Type 0 where
  pub states : r ≡ pack z.states (moves_into rows c left l)
  pub long : length y ≡ length x
  pub fills : (f : ℕ → ℕ → ℕ → Answer) (E : List ℕ) → Rows z f E → Fair rows z c left l w f
      → Filled z E (λ s h b. (moves_into rows c left l s ≡ true) × (has w.which.0 h ≡ true) × (has (bits_of w.over.0) b ≡ true)) x y

pub record Ground (n c target own : ℕ) : Type 0 where
  pub members : within target n ≡ true
  pub inside : (s : ℕ) → has own s ≡ true → has c s ≡ true
  pub cover : (s : ℕ) → has c s ≡ true → has own s ≡ false → has target s ≡ true

-- "the move with the shortest way" (SPEC 5.5)
pub record Leading (rows : List ℕ) (z : Layout) (c target own : ℕ) (w : Stamp) (f : ℕ → ℕ → ℕ → Answer) : Type 0 where
  pub entry : (s h b : ℕ) → s < z.states → has own s ≡ true → Leads z.states (kept rows c) (has target) s
      → has w.which.0 h ≡ true → b < z.width → has (bits_of w.over.0) b ≡ true
      → first_entry w (toward z.states (kept rows c) (has target) s) + w.more * h ≡ entry (f s h b)

pub record Walks (rows : List ℕ) (z : Layout) (c target own : ℕ) (w : Stamp) (x y : List ℕ) : Type 0 where
  pub long : length y ≡ length x
  pub fills : (f : ℕ → ℕ → ℕ → Answer) (E : List ℕ) → Rows z f E → Leading rows z c target own w f
      → Filled z E
      (λ s h b. (has own s ≡ true) × Leads z.states (kept rows c) (has target) s × (has w.which.0 h ≡ true) × (has (bits_of w.over.0) b ≡ true)) x y
