-- Sets of positions in scratch: one set of outputs for each input. Three begin at the sets below. Everything here is told of the list l of the sets
-- that scratch holds, and of the list m of those that it holds afterwards.
--
--   barred_sets                               == how many sets they have together
--   kept_at, reached_at, staying_at             == where they begin
--   kept_pairs l, reached_pairs l, staying_pairs l  == their positions: Z, Y and X of the winning region's definition
--   Beside a b n                             == the n sets from a on are others than the n sets from b on
--   Copied n a b l m                         == the n sets from a on have been copied to those from b on
--   Emptied n b l m                          == the n sets from b on are empty
--   United n a b l m r                       == the n sets from a on have been added to those from b on; r tells whether that added a position
--   Met n a b l m r                          == what is not in the n sets from a on has been taken from those from b on; r tells whether that took one
use Rattle.std.specs.Prelude.{ℕ, ◌+◌, ◌≤◌, ◌<◌, ◌≡◌, Bool, true, false, ◌&&◌, ◌||◌, List, ◌⊎◌, get_or}
use Rattle.finite.specs.But.{ButFor}
use Rattle.bits.specs.Member.{has}
use Rattle.barred.specs.Arena.{Pairs}

abbrev pub barred_sets : ℕ
barred_sets = 768

abbrev pub kept_at : ℕ
kept_at = 0

abbrev pub reached_at : ℕ
reached_at = 128

abbrev pub staying_at : ℕ
staying_at = 640

abbrev pub kept_pairs : List ℕ → Pairs
kept_pairs l i o = has (get_or l i 0) o

abbrev pub reached_pairs : List ℕ → Pairs
reached_pairs l i o = has (get_or l (reached_at + i) 0) o

abbrev pub staying_pairs : List ℕ → Pairs
staying_pairs l i o = has (get_or l (staying_at + i) 0) o

abbrev pub Beside : ℕ → ℕ → ℕ → Type 0
Beside a b n = (a + n ≤ b) ⊎ (b + n ≤ a)

pub record Copied (n a b : ℕ) (l m : List ℕ) : Type 0 where
  pub apart : ButFor b (b + n) l m
  pub row : (i : ℕ) → i < n → get_or m (b + i) 0 ≡ get_or l (a + i) 0

pub record Emptied (n b : ℕ) (l m : List ℕ) : Type 0 where
  pub apart : ButFor b (b + n) l m
  pub row : (i : ℕ) → i < n → get_or m (b + i) 0 ≡ 0

pub record United (n a b : ℕ) (l m : List ℕ) (r : Bool) : Type 0 where
  pub apart : ButFor b (b + n) l m
  pub row : (i o : ℕ) → i < n → has (get_or m (b + i) 0) o ≡ (has (get_or l (b + i) 0) o || has (get_or l (a + i) 0) o)
  pub some : r ≡ true → (i : ℕ) × (o : ℕ) × (i < n) × (has (get_or l (a + i) 0) o ≡ true) × (has (get_or l (b + i) 0) o ≡ false)
  pub none : r ≡ false → (i o : ℕ) → i < n → has (get_or l (a + i) 0) o ≡ true → has (get_or l (b + i) 0) o ≡ true

pub record Met (n a b : ℕ) (l m : List ℕ) (r : Bool) : Type 0 where
  pub apart : ButFor b (b + n) l m
  pub row : (i o : ℕ) → i < n → has (get_or m (b + i) 0) o ≡ (has (get_or l (b + i) 0) o && has (get_or l (a + i) 0) o)
  pub some : r ≡ true → (i : ℕ) × (o : ℕ) × (i < n) × (has (get_or l (b + i) 0) o ≡ true) × (has (get_or l (a + i) 0) o ≡ false)
  pub none : r ≡ false → (i o : ℕ) → i < n → has (get_or l (b + i) 0) o ≡ true → has (get_or l (a + i) 0) o ≡ true
