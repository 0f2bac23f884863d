-- A place to try.
--
--   Tries N kept p    == p is one of the N places, and kept
use Rattle.std.specs.Prelude.{ℕ, ◌<◌, ◌≡◌, List, get_or}

pub record Tries (N : ℕ) (kept : List ℕ) (p : ℕ) : Type 0 where
  pub below : p < N
  pub inside : get_or kept p 0 ≡ 1
