-- What the checker's arrays say, told of places: marks, and a walk.
--
--   Marked A T F       == F has the first configurations, each next place of its members, and places alone
--   Stepped A T w n    == w 0, .., w (n - 1) are the places of a walk from a first configuration
use Rattle.std.specs.Prelude.{ℕ, suc, ◌+◌, ◌*◌, ◌/◌, ◌%◌, ◌<◌, ◌≡◌, Bool, true}
use Rattle.arena.specs.Arena.{Arena}
use Rattle.arena.specs.Table.{ControllerTable}
use Rattle.checker_places.specs.Place.{place_count, starting, leads, turns}

-- A start or row that is none leads to 65,535, which is no place and so never marked: all starts and all rows that are followed are legal.
pub record Marked (A : Arena) (T : ControllerTable) (F : ℕ → Bool) : Type 0 where
  pub below : (k : ℕ) → F k ≡ true → k < place_count A T.memories
  pub first : (i : ℕ) → A.in_initial i ≡ true → F (starting A T i) ≡ true
  pub on : (k j : ℕ) → F k ≡ true → A.in_move (k % A.inputs) j ≡ true → F (leads A T (k / A.inputs * A.inputs + j)) ≡ true

pub record Stepped (A : Arena) (T : ControllerTable) (w : ℕ → ℕ) (n : ℕ) : Type 0 where
  pub some : 0 < n
  pub below : (k : ℕ) → k < n → w k < place_count A T.memories
  pub initial : A.in_initial (w 0 % A.inputs) ≡ true
  pub start : starting A T (w 0 % A.inputs) ≡ w 0
  pub turn : (k : ℕ) → suc k < n → turns A T (w k) (w (suc k)) ≡ true
