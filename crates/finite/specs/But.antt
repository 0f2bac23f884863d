-- Lists that differ in one stretch.
--
--   ButFor a b l m    == m is as long as l, and has its entries but for those at the places from a to b
use Rattle.std.specs.Prelude.{ℕ, ◌≤◌, ◌<◌, ◌≡◌, List, length, get_or}

pub record ButFor (a b : ℕ) (l m : List ℕ) : Type 0 where
  pub long : length m ≡ length l
  pub low : (k : ℕ) → k < a → get_or m k 0 ≡ get_or l k 0
  pub high : (k : ℕ) → b ≤ k → get_or m k 0 ≡ get_or l k 0
