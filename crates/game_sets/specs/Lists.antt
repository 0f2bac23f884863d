-- The sets of a game's requirements in one list. It is a copy of the game's arrays of sets: of all eight requirements, in use or not, in the game's order,
-- for each its four input sets, then its four output sets. It holds nothing else: document 02, M-103, allows no array of over eight words but copies of the
-- game's arrays.
--
--   list_words      == how many words the sets of eight requirements take, eight sets each
--   in_set l r j    == input set j of requirement r in the list l
--   out_set l r j   == output set j of requirement r in the list l
--   Lists g l      == l is a copy of the sets of all eight requirements of g, and has no word more
--   AssumedCounts g n, GuaranteedCounts g n    == n has how many input or output sets each requirement of g has in use
--   Counts g a b   == a and b have both
--   SetsPut q r x y    == the list y is x with the sets of q as those of requirement r
use Rattle.std.specs.Prelude.{ℕ, ◌+◌, ◌*◌, ◌<◌, ◌≡◌, ◌≢◌, List, length, get_or}
use Rattle.sets.specs.Words.{bits_of, sets_in, words_for}
use Rattle.game.specs.declared.Requirement.{Requirement}
use Rattle.game.specs.declared.Game.{Game}
use Rattle.game.specs.Access.{no_input, no_output, requirement_at, assumption_at, guarantee_at}

abbrev pub list_words : ℕ
list_words = words_for (8 * 8)

abbrev pub in_set : List ℕ → ℕ → ℕ → ℕ
in_set l r j = get_or (sets_in l) (8 * r + j) 0

abbrev pub out_set : List ℕ → ℕ → ℕ → ℕ
out_set l r j = get_or (sets_in l) (8 * r + 4 + j) 0

pub record Lists (g : Game) (l : List ℕ) : Type 0 where
  pub long : length l ≡ list_words
  pub assumed : (r j : ℕ) → r < 8 → j < 4 → in_set l r j ≡ bits_of (assumption_at g r j).0
  pub guaranteed : (r j : ℕ) → r < 8 → j < 4 → out_set l r j ≡ bits_of (guarantee_at g r j).0

pub record AssumedCounts (g : Game) (n : List ℕ) : Type 0 where
  pub at : (r : ℕ) → r < 8 → get_or n r 0 ≡ (requirement_at g r).assumed

pub record GuaranteedCounts (g : Game) (n : List ℕ) : Type 0 where
  pub at : (r : ℕ) → r < 8 → get_or n r 0 ≡ (requirement_at g r).guaranteed

pub record Counts (g : Game) (a b : List ℕ) : Type 0 where
  pub assumed : AssumedCounts g a
  pub guaranteed : GuaranteedCounts g b

pub record SetsPut (q : Requirement) (r : ℕ) (x y : List ℕ) : Type 0 where
  pub long : length y ≡ length x
  pub inputs : (j : ℕ) → j < 4 → in_set y r j ≡ bits_of (get_or q.assumptions j no_input).0
  pub outputs : (j : ℕ) → j < 4 → out_set y r j ≡ bits_of (get_or q.guarantees j no_output).0
  pub others : (t j : ℕ) → t < 8 → j < 8 → t ≢ r → get_or (sets_in y) (8 * t + j) 0 ≡ get_or (sets_in x) (8 * t + j) 0
