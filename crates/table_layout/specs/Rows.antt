-- Rows by own state, counter and column in a buffer that is filled in any order.
--
--   place z a h b                    == the place of the row of own state a, counter h and column b
--   most_starts                       == how many entries may stand before the rows
--   LayoutFits z n                   == a buffer of n entries has the rows
--   Rows z f E                       == the list E ends in the rows f, written out
--   Filled z E P l m                 == from l to m entries of E were written, those of the rows with P among them
--   Entries z which first more       == the members of `which` are counters, and first + more × h fits 16 bits for each
--   Wrote z a over which first more l m == from l to m first + more × h was written for the counters h of `which` and the columns of `over`, in any such list
--   WroteColumn z a b which first more l m == the same for the column b
use Rattle.std.specs.Prelude.{ℕ, ◌+◌, ◌*◌, ◌<◌, ◌≤◌, ◌≡◌, true, List, length, get_or}
use Rattle.bits.specs.Member.{has}
use Rattle.sets.specs.Words.{capacity}
use Rattle.arena.specs.Table.{Answer}
use Rattle.theory.specs.Entries.{entry}
use Rattle.table_counters.specs.Counters.{most_counters}
use Rattle.table_filling.specs.Grows.{Right, Grows}
use Rattle.table_layout.specs.declared.Layout.{Layout}

-- "rows by output, counter, input, the last running fastest", "rows by input, counter, output" (SPEC 7.2, 7.3)
unfoldable pub place : Layout → ℕ → ℕ → ℕ → ℕ
place z a h b = z.base + ((a * z.counters + h) * z.width + b)

-- "one start entry an input", "one start entry": at most one for each state of the two graphs (SPEC 7.2, 7.3)
abbrev pub most_starts : ℕ
most_starts = capacity + capacity

pub record LayoutFits (z : Layout) (n : ℕ) : Type 0 where
  pub front : z.base ≤ most_starts
  pub states : z.states ≤ capacity
  pub some : 0 < z.counters
  pub counters : z.counters ≤ most_counters
  pub width : z.width ≤ capacity
  pub room : z.base + z.states * z.counters * z.width ≤ n

pub record Rows (z : Layout) (f : ℕ → ℕ → ℕ → Answer) (E : List ℕ) : Type 0 where
  pub long : length E ≡ z.base + z.states * z.counters * z.width
  pub row : (a h b : ℕ) → a < z.states → h < z.counters → b < z.width → get_or E (place z a h b) 0 ≡ entry (f a h b)

pub record Filled (z : Layout) (E : List ℕ) (P : ℕ → ℕ → ℕ → Type 0) (l m : List ℕ) : Type 0 where
  pub grows : Grows E l m
  pub rows : (a h b : ℕ) → a < z.states → h < z.counters → b < z.width → P a h b → Right E m (place z a h b)

pub record Entries (z : Layout) (which first more : ℕ) : Type 0 where
  pub counters : (h : ℕ) → has which h ≡ true → h < z.counters
  pub small : (h : ℕ) → has which h ≡ true → first + more * h < 65536

pub record Wrote (z : Layout) (a over which first more : ℕ) (l m : List ℕ) : Type 0 where
  pub long : length m ≡ length l
  pub fills : (f : ℕ → ℕ → ℕ → Answer) (E : List ℕ) → Rows z f E
      → ((h b : ℕ) → has which h ≡ true → b < z.width → has over b ≡ true → first + more * h ≡ entry (f a h b))
      → Filled z E (λ k h b. (k ≡ a) × (has which h ≡ true) × (has over b ≡ true)) l m

pub record WroteColumn (z : Layout) (a b which first more : ℕ) (l m : List ℕ) : Type 0 where
  pub long : length m ≡ length l
  pub fills : (f : ℕ → ℕ → ℕ → Answer) (E : List ℕ) → Rows z f E → ((h : ℕ) → has which h ≡ true → first + more * h ≡ entry (f a h b))
      → Filled z E (λ k h c. (k ≡ a) × (has which h ≡ true) × (c ≡ b)) l m
