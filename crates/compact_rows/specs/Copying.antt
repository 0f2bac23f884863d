-- What the functions that copy a table read and write. T is the table that is read, I the count of inputs, C that of components, R that of row numbers
-- (pairs of an output and a counter); l is the room before, m the room afterwards, E the list that is to stand in its front.
--
--   PutAt E l m place n          == from l to m entries of E were written, those at place 0 .. place (n - 1) among them
--   Started T I n l m            == the first n starts were written
-- one row number, in the full layout, from the table of the compact one, whose entries begin at `from`:
--   GatherFits T I from at r     == what is read is in T, what is written in r entries
--   Gathered T I from at n l m   == the entries of the first n inputs were written from `at` on
-- one input for each rank, and with these one row number in the compact layout, whose entries begin at `cells`, from the table of the full one:
--   RepresentFits I C l at              == the ranks are in l, before `at`, and one place for each rank from `at` on
--   Represented I C at n l m            == at its rank, from `at` on, stands for each of the first n inputs one of the same rank; nothing else was changed
--   PickFits T from C l at cells        == what is read is in T, what is written in l, and no input is written over before it is read
--   Picked T from at cells n l m        == the entries of the first n ranks were written, each read for the input at its rank, and nothing else
-- the whole table, full:
--   FullFits T I C R r           == T is a table of the compact layout, and the full one fits r entries
--   FullAgrees E T I C R         == E is T in the full layout
--   GatheredRows T I C R n l m   == the first n row numbers were written
--   FullFilled T I C R l m       == all were
-- the whole table, compact:
--   CompactFits T I C R l        == T is a table of the full layout with a row number or more, l has the ranks in their place, all of them, and the
--                                   compact one fits l
--   CompactAgrees E T I C R l    == E is T in the compact layout with the ranks of l
--   PickRowsFits T I C R l       == T is a table of the full layout, an input for each rank stands in the first row number of l, and all rows fit l
--   PickedRows T I C R n l m     == the row numbers from n on were written, and nothing else
--   CompactFilled T I C R l m    == all were
use Rattle.std.specs.Prelude.{ℕ, ◌+◌, ◌*◌, ◌≤◌, ◌<◌, ◌≡◌, List, ◌++◌, ◌≢◌, length, get_or, drop}
use Rattle.table_filling.specs.Grows.{Right, Grows}

pub record PutAt (E l m : List ℕ) (place : ℕ → ℕ) (n : ℕ) : Type 0 where
  pub grows : Grows E l m
  pub below : (j : ℕ) → j < n → place j < length E
  pub right : (j : ℕ) → j < n → Right E m (place j)

pub record Started (T : List ℕ) (I n : ℕ) (l m : List ℕ) : Type 0 where
  pub long : length m ≡ length l
  pub behind : (k : ℕ) → I ≤ k → get_or m k 0 ≡ get_or l k 0
  pub fills : (E : List ℕ) → I ≤ length E → ((i : ℕ) → i < I → get_or T i 0 ≡ get_or E i 0) → PutAt E l m (λ i. i) n

-- ---- full

pub record GatherFits (T : List ℕ) (I from at r : ℕ) : Type 0 where
  pub ranks : I + I ≤ length T
  pub cells : (j : ℕ) → j < I → from + get_or T (I + j) 0 < length T
  pub room : at + I ≤ r

pub record Gathered (T : List ℕ) (I from at n : ℕ) (l m : List ℕ) : Type 0 where
  pub long : length m ≡ length l
  pub fills : (E : List ℕ) → at + I ≤ length E → ((j : ℕ) → j < I → get_or T (from + get_or T (I + j) 0) 0 ≡ get_or E (at + j) 0)
      → PutAt E l m (λ j. at + j) n

pub record FullFits (T : List ℕ) (I C R r : ℕ) : Type 0 where
  pub table : I + I + R * C ≤ length T
  pub ranks : (j : ℕ) → j < I → get_or T (I + j) 0 < C
  pub room : I + R * I ≤ r

pub record FullAgrees (E T : List ℕ) (I C R : ℕ) : Type 0 where
  pub long : length E ≡ I + R * I
  pub starts : (i : ℕ) → i < I → get_or T i 0 ≡ get_or E i 0
  pub rows : (x j : ℕ) → x < R → j < I → get_or T (I + I + x * C + get_or T (I + j) 0) 0 ≡ get_or E (I + x * I + j) 0

pub record GatheredRows (T : List ℕ) (I C R n : ℕ) (l m : List ℕ) : Type 0 where
  pub long : length m ≡ length l
  pub grows : (E : List ℕ) → FullAgrees E T I C R → Grows E l m
  pub right : (E : List ℕ) → FullAgrees E T I C R → (x j : ℕ) → x < n → j < I → Right E m (I + x * I + j)

pub record FullFilled (T : List ℕ) (I C R : ℕ) (l m : List ℕ) : Type 0 where
  pub long : length m ≡ length l
  pub front : (E : List ℕ) → FullAgrees E T I C R → m ≡ E ++ drop (length E) l

-- ---- compact

pub record RepresentFits (I C : ℕ) (l : List ℕ) (at : ℕ) : Type 0 where
  pub few : I ≤ 65536
  pub before : I + I ≤ at
  pub ranks : (j : ℕ) → j < I → get_or l (I + j) 0 < C
  pub room : at + C ≤ length l

pub record Represented (I C at n : ℕ) (l m : List ℕ) : Type 0 where
  pub long : length m ≡ length l
  pub outside : (k : ℕ) → ((c : ℕ) → c < C → k ≢ at + c) → get_or m k 0 ≡ get_or l k 0
  pub below : (j : ℕ) → j < n → get_or m (at + get_or l (I + j) 0) 0 < I
  pub alike : (j : ℕ) → j < n → get_or l (I + get_or m (at + get_or l (I + j) 0) 0) 0 ≡ get_or l (I + j) 0

pub record PickFits (T : List ℕ) (from C : ℕ) (l : List ℕ) (at cells : ℕ) : Type 0 where
  pub table : (c : ℕ) → c < C → from + get_or l (at + c) 0 < length T
  pub apart : (c i : ℕ) → i < c → c < C → at + c ≢ cells + i
  pub inputs : at + C ≤ length l
  pub room : cells + C ≤ length l

pub record Picked (T : List ℕ) (from at cells n : ℕ) (l m : List ℕ) : Type 0 where
  pub long : length m ≡ length l
  pub outside : (k : ℕ) → ((c : ℕ) → c < n → k ≢ cells + c) → get_or m k 0 ≡ get_or l k 0
  pub entries : (c : ℕ) → c < n → get_or m (cells + c) 0 ≡ get_or T (from + get_or l (at + c) 0) 0

pub record PickRowsFits (T : List ℕ) (I C R : ℕ) (l : List ℕ) : Type 0 where
  pub table : I + R * I ≤ length T
  pub inputs : (c : ℕ) → c < C → get_or l (I + I + c) 0 < I
  pub room : I + I + R * C ≤ length l

pub record PickedRows (T : List ℕ) (I C R n : ℕ) (l m : List ℕ) : Type 0 where
  pub long : length m ≡ length l
  pub outside : (k : ℕ) → ((y c : ℕ) → n ≤ y → y < R → c < C → k ≢ I + I + y * C + c) → get_or m k 0 ≡ get_or l k 0
  pub rows : (y c : ℕ) → n ≤ y → y < R → c < C → get_or m (I + I + y * C + c) 0 ≡ get_or T (I + y * I + get_or l (I + I + c) 0) 0

pub record CompactFits (T : List ℕ) (I C R : ℕ) (l : List ℕ) : Type 0 where
  pub few : I ≤ 65536
  pub some : 0 < R
  pub table : I + R * I ≤ length T
  pub ranks : (j : ℕ) → j < I → get_or l (I + j) 0 < C
  pub reached : (c : ℕ) → c < C → (j : ℕ) × (j < I) × (get_or l (I + j) 0 ≡ c)
  pub room : I + I + R * C ≤ length l

pub record CompactAgrees (E T : List ℕ) (I C R : ℕ) (l : List ℕ) : Type 0 where
  pub long : length E ≡ I + I + R * C
  pub starts : (i : ℕ) → i < I → get_or T i 0 ≡ get_or E i 0
  pub ranks : (j : ℕ) → j < I → Right E l (I + j)
  pub rows : (x j : ℕ) → x < R → j < I → get_or T (I + x * I + j) 0 ≡ get_or E (I + I + x * C + get_or l (I + j) 0) 0

pub record CompactFilled (T : List ℕ) (I C R : ℕ) (l m : List ℕ) : Type 0 where
  pub long : length m ≡ length l
  pub front : (E : List ℕ) → CompactAgrees E T I C R l → m ≡ E ++ drop (length E) l
