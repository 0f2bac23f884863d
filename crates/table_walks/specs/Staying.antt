-- Moves that keep the counter: one move into a set, and the way to a set.
--
--   Staying z over w               == a move to p writes p with the row's own counter, for all counters and the columns of over
--   Entering rows n own target     == the states of own are below n, and each has a move into the target
--   Stepping rows z own target b f == rows f hold the lowest such move in the column b
--   Enters rows z own target b x y == from x to y they were written, in any list that ends in such rows
--   Heading rows z c target over f == rows f hold the moves towards the target, for the states of c that are not of the target
--   Approaches rows z c target over x y == from x to y those of the states with a way were written, in any list that ends in such rows
use Rattle.std.specs.Prelude.{ℕ, ◌<◌, ◌≡◌, true, false, List, ltb, length, get_or}
use Rattle.finite.specs.Bounded.{least}
use Rattle.bits.specs.Member.{has, both, sets_meet}
use Rattle.sets.specs.Words.{capacity, bits_of}
use Rattle.graphs.specs.Way.{toward}
use Rattle.graphs.proofs.Way.{Leads}
use Rattle.arena.specs.Table.{Answer, gives}
use Rattle.theory.specs.Entries.{stride}
use Rattle.graph_ways.specs.Kept.{kept}
use Rattle.table_layout.specs.declared.Layout.{Layout}
use Rattle.table_layout.specs.Rows.{Rows, Filled}
use Rattle.table_walks.specs.declared.Stamp.{Stamp}

-- "g stays", "h stays" (SPEC 5.5, 6.6)
pub record Staying (z : Layout) (over : ℕ) (w : Stamp) : Type 0 where
  pub columns : bits_of w.over.0 ≡ over
  pub which : (h : ℕ) → has w.which.0 h ≡ ltb h z.counters
  pub hit : w.hit ≡ 0
  pub miss : w.miss ≡ 0
  pub more : w.more ≡ stride

pub record Entering (rows : List ℕ) (n own target : ℕ) : Type 0 where
  pub below : (s : ℕ) → has own s ≡ true → s < n
  pub move : (s : ℕ) → has own s ≡ true → sets_meet capacity (get_or rows s 0) target ≡ true

-- "the lowest move to ..; h stays", "there take the lowest such j; h stays" (SPEC 6.5, 6.6)
pub record Stepping (rows : List ℕ) (z : Layout) (own target b : ℕ) (f : ℕ → ℕ → ℕ → Answer) : Type 0 where
  pub row : (s h : ℕ) → has own s ≡ true → h < z.counters → f s h b ≡ gives h (least capacity (both (get_or rows s 0) target))

pub record Enters (rows : List ℕ) (z : Layout) (own target b : ℕ) (x y : List ℕ) : Type 0 where
  pub long : length y ≡ length x
  pub fills : (f : ℕ → ℕ → ℕ → Answer) (E : List ℕ) → Rows z f E → Stepping rows z own target b f
      → Filled z E (λ s h c. (has own s ≡ true) × (c ≡ b)) x y

-- "the move with the shortest way to home, the lowest on ties; g stays", "go the shortest way inside the component" (SPEC 5.5, 6.6)
pub record Heading (rows : List ℕ) (z : Layout) (c target over : ℕ) (f : ℕ → ℕ → ℕ → Answer) : Type 0 where
  pub row : (s h b : ℕ) → s < z.states → has c s ≡ true → has target s ≡ false → Leads z.states (kept rows c) (has target) s
      → h < z.counters → b < z.width → has over b ≡ true → f s h b ≡ gives h (toward z.states (kept rows c) (has target) s)

pub record Approaches (rows : List ℕ) (z : Layout) (c target over : ℕ) (x y : List ℕ) : Type 0 where
  pub long : length y ≡ length x
  pub fills : (f : ℕ → ℕ → ℕ → Answer) (E : List ℕ) → Rows z f E → Heading rows z c target over f
      → Filled z E (λ s h b. (has c s ≡ true) × (has target s ≡ false) × Leads z.states (kept rows c) (has target) s × (has over b ≡ true)) x y
