-- A buffer into whose front the entries of a list E are written, in any order.
--
--   Right E l k     == place k of the buffer l holds its entry
--   Grows E l m     == from l to m entries were written, each at its place, and nothing else
use Rattle.std.specs.Prelude.{ℕ, ◌<◌, ◌≡◌, List, length, get_or, drop}

pub record Right (E l : List ℕ) (k : ℕ) : Type 0 where
  pub is : get_or l k 0 ≡ get_or E k 0

pub record Grows (E l m : List ℕ) : Type 0 where
  pub long : length m ≡ length l
  pub rest : drop (length E) m ≡ drop (length E) l
  pub kept : (k : ℕ) → k < length E → Right E l k → Right E m k
