-- What the search for a component finds among the states of a set, told by rows of moves.
--
--   Narrow rows                == moves lead to states that a set can hold
--   Small x                    == the members of x are such states
--   Onward rows inside p       == p has what its members move to, as far as that is inside
--   Backward rows inside p     == p has every state inside that moves to a member
--   Crossed rows n r           == r has each place q that a move crosses: from one of the n states that is not below q to one below q
--   Block rows n left s r      == of left, whose states are below n, r has s and every state with a move into r
--   Ahead rows inside s r      == r is the least such onward set with s
--   Swept rows left found r    == r has what was found and every state of left with a move there, and nothing that need not belong
--   Behind rows inside s r     == r is the least such backward set with s
--   Component rows inside s r  == r has the states that every onward set with s has, and every backward one: those that s reaches, and that reach s
--   Reduced rows left s r      == r is left, without the component of s where s is left
use Rattle.std.specs.Prelude.{ℕ, ◌≤◌, ◌<◌, ◌≡◌, Bool, true, false, ◌&&◌, not, List, get_or}
use Rattle.bits.specs.Member.{has}
use Rattle.sets.specs.Words.{capacity}

abbrev pub Narrow : List ℕ → Type 0
Narrow rows = (t u : ℕ) → t < capacity → has (get_or rows t 0) u ≡ true → u < capacity

abbrev pub Small : ℕ → Type 0
Small x = (t : ℕ) → has x t ≡ true → t < capacity

abbrev pub Onward : List ℕ → ℕ → (ℕ → Bool) → Type 0
Onward rows inside p = (t u : ℕ) → p t ≡ true → has (get_or rows t 0) u ≡ true → has inside u ≡ true → p u ≡ true

abbrev pub Backward : List ℕ → ℕ → (ℕ → Bool) → Type 0
Backward rows inside p = (t u : ℕ) → has inside t ≡ true → has (get_or rows t 0) u ≡ true → p u ≡ true → p t ≡ true

abbrev pub Crossed : List ℕ → ℕ → ℕ → Type 0
Crossed rows n r = (q t v : ℕ) → t < n → q ≤ t → v < q → has (get_or rows t 0) v ≡ true → has r q ≡ true

pub record Block (rows : List ℕ) (n left s r : ℕ) : Type 0 where
  pub inside : (t : ℕ) → has r t ≡ true → has left t ≡ true
  pub own : has left s ≡ true → has r s ≡ true
  pub backward : ((t : ℕ) → has left t ≡ true → t < n) → Backward rows left (has r)

pub record Ahead (rows : List ℕ) (inside s r : ℕ) : Type 0 where
  pub own : has r s ≡ true
  pub onward : Onward rows inside (has r)
  pub least : (p : ℕ → Bool) → p s ≡ true → Onward rows inside p → (t : ℕ) → has r t ≡ true → p t ≡ true

pub record Swept (rows : List ℕ) (left found r : ℕ) : Type 0 where
  pub keeps : (t : ℕ) → has found t ≡ true → has r t ≡ true
  pub moves : (t u : ℕ) → has left t ≡ true → has (get_or rows t 0) u ≡ true → has found u ≡ true → has r t ≡ true
  pub least : (p : ℕ → Bool) → ((t : ℕ) → has found t ≡ true → p t ≡ true) → Backward rows left p → (t : ℕ) → has r t ≡ true → p t ≡ true

pub record Behind (rows : List ℕ) (inside s r : ℕ) : Type 0 where
  pub own : has r s ≡ true
  pub backward : Backward rows inside (has r)
  pub least : (p : ℕ → Bool) → p s ≡ true → Backward rows inside p → (t : ℕ) → has r t ≡ true → p t ≡ true

pub record Component (rows : List ℕ) (inside s r : ℕ) : Type 0 where
  pub ahead : (p : ℕ → Bool) → p s ≡ true → Onward rows inside p → (t : ℕ) → has r t ≡ true → p t ≡ true
  pub behind : (p : ℕ → Bool) → p s ≡ true → Backward rows inside p → (t : ℕ) → has r t ≡ true → p t ≡ true
  pub whole : (t : ℕ) → ((p : ℕ → Bool) → p s ≡ true → Onward rows inside p → p t ≡ true)
      → ((p : ℕ → Bool) → p s ≡ true → Backward rows inside p → p t ≡ true) → has r t ≡ true

pub record Reduced (rows : List ℕ) (left s r : ℕ) : Type 0 where
  pub passed : has left s ≡ false → r ≡ left
  pub found : has left s ≡ true → (c : ℕ) × Component rows left s c × ((t : ℕ) → has r t ≡ (has left t && not (has c t)))
