-- What the loops write into the buffer of the controller's table, of the size z.
--
--   first p, more p                == first p + more p × c is the entry for state p and counter c, and none where p is no state
--   leading z j                    == input j leads: it has a column of its own
--   column_of z j, input_of z b      == the column of the leader j, and the leader of column b
--   layout_of z                     == the layout of its rows
--   length_of z                     == how many entries the table has
--   Table z long                   == a buffer of that length has the table
--   Row z o b p l m                == the rows of output o and column b were written: state p, the counter stays
--
-- told from the sets s of scratch, c being the inputs in nontrivial components:
--   settles_at c j row reach        == j is in a nontrivial component, and one of its homes, the row, is in reach
--   home_at c j row reach d         == and the lowest such home is d
--   has_home_at s n c o d j          == the home of j at output o is d
--   PlainRow z s c o moves j b     == where input j, of column b, has no home in reach of o: the lowest of the moves to a member of its row, or none
--   Plain z s c o moves k          == the same for each leader j < k
--   Plains z s c rows k            == the same for each output o < k
--   start_of .. i, Starts .. k      == the start entries
use Rattle.std.specs.Prelude.{ℕ, ◌+◌, ◌*◌, ◌≤◌, ◌<◌, ◌≡◌, Bool, true, false, ◌&&◌, not, List, ltb, eqb, get_or, set}
use Rattle.finite.specs.Bounded.{least, count}
use Rattle.bits.specs.Member.{has, pack, both, sets_meet}
use Rattle.sets.specs.Words.{capacity, bits_of}
use Rattle.arena.specs.Table.{none, gives}
use Rattle.theory.specs.Entries.{stride, entry}
use Rattle.scratch.specs.Stored.{row_at, out_reach_at, won_at}
use Rattle.table_counters.specs.Counters.{most_counters}
use Rattle.table_layout.specs.declared.Layout.{Layout}
use Rattle.table_layout.specs.Rows.{most_starts, WroteColumn}
use Rattle.controller_rows.specs.declared.Size.{Size}
use Rattle.controller_rows.specs.Each.{Each}

-- "Entries are 16 bits: next state + 64 × next counter; none is 65,535.", 128 × by M-105 (SPEC 7.1)
unfoldable pub first : ℕ → ℕ
first p = elim (ltb p capacity) [ true ↦ entry (gives 0 p) | false ↦ entry none ]

unfoldable pub more : ℕ → ℕ
more p = elim (ltb p capacity) [ true ↦ stride | false ↦ 0 ]

pub record Stays (p f m : ℕ) : Type 0 where
  pub first : f ≡ first p
  pub more : m ≡ more p

abbrev pub leading : Size → ℕ → Bool
leading z = has (bits_of z.leaders.0)

-- "then rows by output, counter and component", "Components rank from 0 by smallest state." (SPEC 11.1)
unfoldable pub column_of : Size → ℕ → ℕ
column_of z j = count j (leading z)

unfoldable pub input_of : Size → ℕ → ℕ
input_of z b = least z.inputs (λ j. leading z j && eqb (column_of z j) b)

-- "one start entry an input, then rows by output, counter, input, the last running fastest" (SPEC 7.2)
unfoldable pub layout_of : Size → Layout
layout_of z = record { base = z.base; states = z.outputs; counters = z.counters; width = z.width }

abbrev pub length_of : Size → ℕ
length_of z = z.base + z.outputs * z.counters * z.width

pub record Table (z : Size) (long : ℕ) : Type 0 where
  pub inputs : z.inputs ≤ capacity
  pub outputs : z.outputs ≤ capacity
  pub some : 0 < z.counters
  pub counters : z.counters ≤ most_counters
  pub all : (h : ℕ) → has z.all.0 h ≡ ltb h z.counters
  pub starts : z.inputs ≤ z.base
  pub front : z.base ≤ most_starts
  pub columns : z.width ≡ count z.inputs (leading z)
  pub room : length_of z ≤ long

pub record Row (z : Size) (o b p : ℕ) (l m : List ℕ) : Type 0 where
  pub column : WroteColumn (layout_of z) o b z.all.0 (first p) (more p) l m

unfoldable pub settles_at : ℕ → ℕ → ℕ → ℕ → Bool
settles_at c j row reach = has c j && sets_meet capacity row reach

unfoldable pub home_at : ℕ → ℕ → ℕ → ℕ → ℕ → Bool
home_at c j row reach d = has c j && eqb (least capacity (both row reach)) d

unfoldable pub has_home_at : List ℕ → ℕ → ℕ → ℕ → ℕ → ℕ → Bool
has_home_at s n c o d j = home_at c j (row_at s n j) (out_reach_at s n o) d

pub record PlainRow (z : Size) (s : List ℕ) (c o moves j b : ℕ) (l m : List ℕ) : Type 0 where
  pub written : settles_at c j (row_at s z.inputs j) (out_reach_at s z.inputs o) ≡ false
      → Row z o b (least capacity (both moves (row_at s z.inputs j))) l m
  pub kept : settles_at c j (row_at s z.inputs j) (out_reach_at s z.inputs o) ≡ true → m ≡ l

pub record Plain (z : Size) (s : List ℕ) (c o moves k : ℕ) (l m : List ℕ) : Type 0 where
  pub each :
      Each (λ j. leading z j && not (settles_at c j (row_at s z.inputs j) (out_reach_at s z.inputs o)))
      (λ j. Row z o (column_of z j) (least capacity (both moves (row_at s z.inputs j)))) k l m

pub record Plains (z : Size) (s : List ℕ) (c : ℕ) (rows : List ℕ) (k : ℕ) (l m : List ℕ) : Type 0 where
  pub each : Each (λ o. true) (λ o. Plain z s c o (get_or rows o 0) z.inputs) k l m

unfoldable pub start_of : Size → List ℕ → ℕ → ℕ → ℕ → ℕ → ℕ
start_of z s c ins outs i =
    elim (has ins i) [ true ↦ first (least capacity (both outs (pack z.outputs (won_at s z.inputs c i)))) | false ↦ entry none ]

pub record Start (z : Size) (s : List ℕ) (c ins outs i : ℕ) (l m : List ℕ) : Type 0 where
  pub written : m ≡ set l i (start_of z s c ins outs i)

pub record Starts (z : Size) (s : List ℕ) (c ins outs k : ℕ) (l m : List ℕ) : Type 0 where
  pub each : Each (λ i. true) (Start z s c ins outs) k l m
