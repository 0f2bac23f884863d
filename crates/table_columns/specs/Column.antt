-- Entries written in columns: for each h of a set `which`, first + more × h at place base + step × h; and blocks of such columns. What is written
-- is judged against any list E of entries that holds the same at those places.
--
--   ColumnRoom n base step which first more        == the places are below n, and the entries fit 16 bits
--   Agrees E base step which first more            == E holds those entries at those places
--   Columned E l m base step which                 == from l to m entries of E were written, those of the places among them
--   Column l m base step which first more          == so it is for every such E
--   FrontFits, FrontAgrees, Fronted, Front         == the same for each h below `done` of the h below a count
--   Run l m base width value done                  == so it is of the value at the places base + x for x below `done`, where E holds it for x < width
--   RowFits, Row                                   == the same of the value at base + x for each x < width of a set `over`
--   BlockFits, BlockAgrees, Blocked, Block         == the same of columns at base + x for each x < width of a set `over`, with steps of width
use Rattle.std.specs.Prelude.{ℕ, ◌+◌, ◌*◌, ◌<◌, ◌≤◌, ◌≡◌, true, List, length, get_or}
use Rattle.bits.specs.Member.{has}
use Rattle.sets.specs.Words.{capacity}
use Rattle.table_counters.specs.Counters.{counter_capacity}
use Rattle.table_filling.specs.Grows.{Right, Grows}

pub record ColumnRoom (n base step which first more : ℕ) : Type 0 where
  pub below : (h : ℕ) → has which h ≡ true → base + step * h < n
  pub small : (h : ℕ) → has which h ≡ true → first + more * h < 65536

pub record Agrees (E : List ℕ) (base step which first more : ℕ) : Type 0 where
  pub below : (h : ℕ) → has which h ≡ true → base + step * h < length E
  pub entry : (h : ℕ) → has which h ≡ true → first + more * h ≡ get_or E (base + step * h) 0

pub record Columned (E l m : List ℕ) (base step which : ℕ) : Type 0 where
  pub grows : Grows E l m
  pub right : (h : ℕ) → has which h ≡ true → Right E m (base + step * h)

pub record Column (l m : List ℕ) (base step which first more : ℕ) : Type 0 where
  pub long : length m ≡ length l
  pub fills : (E : List ℕ) → Agrees E base step which first more → length E ≤ length l → Columned E l m base step which

pub record FrontFits (n base step count first more : ℕ) : Type 0 where
  pub few : count ≤ counter_capacity
  pub below : (h : ℕ) → h < count → base + step * h < n
  pub small : (h : ℕ) → h < count → first + more * h < 65536

-- E holds the entries of the h below the count
pub record FrontAgrees (E : List ℕ) (base step count first more : ℕ) : Type 0 where
  pub below : (h : ℕ) → h < count → base + step * h < length E
  pub entry : (h : ℕ) → h < count → first + more * h ≡ get_or E (base + step * h) 0

pub record Fronted (E l m : List ℕ) (base step done : ℕ) : Type 0 where
  pub grows : Grows E l m
  pub right : (h : ℕ) → h < done → Right E m (base + step * h)

pub record Front (l m : List ℕ) (base step count first more done : ℕ) : Type 0 where
  pub long : length m ≡ length l
  pub fills : (E : List ℕ) → FrontAgrees E base step count first more → Fronted E l m base step done

-- E holds the value at base + x for x < width
pub record RunAgrees (E : List ℕ) (base width value : ℕ) : Type 0 where
  pub below : (x : ℕ) → x < width → base + x < length E
  pub entry : (x : ℕ) → x < width → value ≡ get_or E (base + x) 0

pub record Ran (E l m : List ℕ) (base done : ℕ) : Type 0 where
  pub grows : Grows E l m
  pub right : (x : ℕ) → x < done → Right E m (base + x)

pub record Run (l m : List ℕ) (base width value done : ℕ) : Type 0 where
  pub long : length m ≡ length l
  pub fills : (E : List ℕ) → RunAgrees E base width value → Ran E l m base done

pub record RowFits (n base width over : ℕ) : Type 0 where
  pub narrow : width ≤ capacity
  pub inside : (x : ℕ) → has over x ≡ true → x < width
  pub below : (x : ℕ) → has over x ≡ true → base + x < n

-- E holds the value at base + x for x of `over`
pub record RowAgrees (E : List ℕ) (base over value : ℕ) : Type 0 where
  pub below : (x : ℕ) → has over x ≡ true → base + x < length E
  pub entry : (x : ℕ) → has over x ≡ true → value ≡ get_or E (base + x) 0

pub record Rowed (E l m : List ℕ) (base over : ℕ) : Type 0 where
  pub grows : Grows E l m
  pub right : (x : ℕ) → has over x ≡ true → Right E m (base + x)

pub record Row (l m : List ℕ) (base over value : ℕ) : Type 0 where
  pub long : length m ≡ length l
  pub fills : (E : List ℕ) → RowAgrees E base over value → length E ≤ length l → Rowed E l m base over

pub record BlockFits (n base width over which first more : ℕ) : Type 0 where
  pub narrow : width ≤ capacity
  pub inside : base + width ≤ n
  pub columns : (x : ℕ) → x < width → has over x ≡ true → ColumnRoom n (base + x) width which first more

pub record BlockAgrees (E : List ℕ) (base width over which first more : ℕ) : Type 0 where
  pub columns : (x : ℕ) → x < width → has over x ≡ true → Agrees E (base + x) width which first more

-- the columns at x below `done`
pub record Blocked (E l m : List ℕ) (base width over which done : ℕ) : Type 0 where
  pub grows : Grows E l m
  pub right : (x h : ℕ) → x < done → has over x ≡ true → has which h ≡ true → Right E m (base + x + width * h)

pub record Block (l m : List ℕ) (base width over which first more : ℕ) : Type 0 where
  pub long : length m ≡ length l
  pub fills : (E : List ℕ) → BlockAgrees E base width over which first more → length E ≤ length l → Blocked E l m base width over which width
