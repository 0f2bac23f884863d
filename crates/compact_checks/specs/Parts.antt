-- A table of the full layout, compared with itself. T is the table, F a list of inputs: number k of it is for the input part + k.
--
--   part_size                      == how many inputs a part has at most: a byte for each of them is eight words
--   row_agrees T F row part n      == in the row number that begins at row, the entry of each of n inputs is that of the input which F names
--   part_fits T F I R part n       == the same of all R row numbers, I being the count of inputs
--   Marked part n c s l m         == from l to m, s was named for those of n inputs that are in c, and nothing else was changed
use Rattle.std.specs.Prelude.{ℕ, ◌+◌, ◌*◌, ◌≤◌, ◌<◌, ◌≡◌, Bool, true, false, List, eqb, length, get_or}
use Rattle.finite.specs.Bounded.{all}
use Rattle.bits.specs.Member.{has}

abbrev pub part_size : ℕ
part_size = 64

unfoldable pub entry_fits : (T F : List ℕ) (row part k : ℕ) → Bool
entry_fits T F row part k = eqb (get_or T (row + part + k) 0) (get_or T (row + get_or F k 0) 0)

unfoldable pub row_agrees : (T F : List ℕ) (row part n : ℕ) → Bool
row_agrees T F row part n = all n (entry_fits T F row part)

unfoldable pub row_at : (T F : List ℕ) (I part n x : ℕ) → Bool
row_at T F I part n x = row_agrees T F (I + x * I) part n

unfoldable pub part_fits : (T F : List ℕ) (I R part n : ℕ) → Bool
part_fits T F I R part n = all R (row_at T F I part n)

pub record Marked (part n c s : ℕ) (l m : List ℕ) : Type 0 where
  pub long : length m ≡ length l
  pub inside : (k : ℕ) → k < n → has c (part + k) ≡ true → get_or m k 0 ≡ s
  pub outside : (k : ℕ) → k < n → has c (part + k) ≡ false → get_or m k 0 ≡ get_or l k 0
  pub ahead : (k : ℕ) → n ≤ k → get_or m k 0 ≡ get_or l k 0
