-- The rows past a count of states, joined.
--
--   Past rows n k x   == x is empty where rows n to k - 1 are, and else some row from n on is not
use Rattle.std.specs.Prelude.{ℕ, ◌≤◌, ◌<◌, ◌≡◌, List, ◌≢◌, get_or}
use Rattle.sets.specs.Words.{capacity}

pub record Past (rows : List ℕ) (n k x : ℕ) : Type 0 where
  pub none : x ≡ 0 → (s : ℕ) → n ≤ s → s < k → get_or rows s 0 ≡ 0
  pub some : x ≢ 0 → (s : ℕ) × (n ≤ s) × (s < capacity) × (get_or rows s 0 ≢ 0)
