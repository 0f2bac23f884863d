-- A part of a row.
--
--   Scattering n l m base width over value rest == from l to m the value was written at base + x for each x < width of `over`, but for those of `rest`
use Rattle.std.specs.Prelude.{ℕ, ◌+◌, ◌≤◌, ◌≡◌, true, false, List, length}
use Rattle.bits.specs.Member.{has}
use Rattle.table_filling.specs.Grows.{Right, Grows}
use Rattle.table_columns.specs.Column.{RowFits, RowAgrees}

-- a row but for the columns of `rest`
pub record RowPart (E l m : List ℕ) (base over rest : ℕ) : Type 0 where
  pub grows : Grows E l m
  pub right : (x : ℕ) → has over x ≡ true → has rest x ≡ false → Right E m (base + x)

pub record Scattering (n : ℕ) (l m : List ℕ) (base width over value rest : ℕ) : Type 0 where
  pub fits : RowFits n base width over
  pub long : length m ≡ length l
  pub inside : (x : ℕ) → has rest x ≡ true → has over x ≡ true
  pub fills : (E : List ℕ) → RowAgrees E base over value → length E ≤ length l → RowPart E l m base over rest
