-- The names of a list: "named on standard input, one name a line (bytes after the last byte 10 are a name too)".
--
--   push_byte b ns  == the names ns with the byte b before the first of them
--   names l        == the names of the list l
--   front l        == the bytes before the first byte 10
--   has_zero n      == n has a byte 0
--   fit_name n      == n can name a file: at most 255 bytes, none of them 0
--   most           == how many names a list may have
--   NextName l a r == the first name of the list l from place a on ends before place r, where what follows begins
use Rattle.std.specs.Prelude.{ℕ, ◌<◌, ◌≤◌, Bool, true, false, not, ◌&&◌, ◌||◌, List, [], ◌∷◌, ◌≡◌, eqb, leb, length, drop}

unfoldable pub push_byte : ℕ → List (List ℕ) → List (List ℕ)
push_byte b [] = (b ∷ []) ∷ []
push_byte b (n ∷ ns) = (b ∷ n) ∷ ns

-- an empty line is a name, and a list that ends in byte 10 has no further name (SPEC 16.1)
unfoldable pub names : List ℕ → List (List ℕ)
names [] = []
names (b ∷ l) = elim (eqb b 10) [ true ↦ [] ∷ names l | false ↦ push_byte b (names l) ]

unfoldable pub front : List ℕ → List ℕ
front [] = []
front (b ∷ l) = elim (eqb b 10) [ true ↦ [] | false ↦ b ∷ front l ]

unfoldable pub has_zero : List ℕ → Bool
has_zero [] = false
has_zero (b ∷ l) = eqb b 0 || has_zero l

-- "a name over 255 bytes or with a byte 0" (SPEC 16.2)
unfoldable pub fit_name : List ℕ → Bool
fit_name n = leb (length n) 255 && not (has_zero n)

-- "up to 1,000 game files" (SPEC 16.2)
abbrev pub most : ℕ
most = 1000

pub record NextName (l : List ℕ) (a r : ℕ) : Type 0 where
  pub name : names (drop a l) ≡ front (drop a l) ∷ names (drop r l)
  pub on : a < r
  pub within : r ≤ length l
