-- Attempts at rounds inside a set of places, told of lists.
--
--   assumption q j                  == the number of input set j of requirement q
--   CutFits, Cut                    == places taken out of a set
--   LegFits, Leg                    == a walk goes on to a queue place
--   Walking I N rows to X v w l n   == the first n entries of l are a walk inside X from v to w
--   Missed, Removed                 == places that lie on no round of interest are taken out
--   Round                           == a round inside X that visits every assumption
--   LegsFit, Legs                   == a walk through the assumptions, as far as it goes
--   AttemptFits, Attempted          == what one attempt shows
use Rattle.std.specs.Prelude.{ℕ, suc, ◌+◌, ◌-◌, ◌*◌, ◌%◌, ◌≤◌, ◌<◌, ◌≡◌, Bool, true, false, ◌⊎◌, List, length, get_or}
use Rattle.std.specs.declared.option.Option.TheVariants.{None, Some}
use Rattle.finite.specs.Bounded.{count}
use Rattle.bits.specs.Member.{has}
use Rattle.sets.specs.Words.{bits_of}
use Rattle.game.specs.declared.Requirement.{Requirement}
use Rattle.game.specs.Access.{no_input}
use Rattle.checker_search.specs.Turns.{marked, follows, Grid}
use Rattle.checker_search.specs.Queues.{at, Sized, Held, Reach, Finders, Root, Link}
use Rattle.checker_rounds.specs.declared.Course.{Course}
use Rattle.checker_rounds.specs.declared.Tried.{Tried}
use Rattle.checker_places.specs.Place.{walk_room, most_places}

abbrev pub assumption : Requirement → ℕ → ℕ
assumption q j = bits_of (get_or q.assumptions j no_input).0

pub record CutFits (kept queue : List ℕ) (n u : ℕ) : Type 0 where
  pub long : length kept ≡ most_places
  pub short : n ≤ most_places
  pub inside : (k : ℕ) → k < n → at queue k < most_places
  pub here : u < most_places

pub record Cut (kept queue : List ℕ) (n u : ℕ) (kept' : List ℕ) : Type 0 where
  pub size : length kept' ≡ most_places
  pub only : (k : ℕ) → marked kept' k ≡ true → marked kept k ≡ true
  pub gone : marked kept' u ≡ false
  pub taken : (k : ℕ) → marked kept k ≡ true → marked kept' k ≡ false → ((i : ℕ) × (i < n) × (at queue i ≡ k)) ⊎ (k ≡ u)

pub record LegFits (from : List ℕ) (k : ℕ) (way walk : List ℕ) (n : ℕ) : Type 0 where
  pub place : k < most_places
  pub finders : Finders k from
  pub way_long : length way ≡ most_places
  pub walk_long : length walk ≡ walk_room
  pub room : n + suc k ≤ walk_room

-- the way from a root to queue place k stands behind the walk's n entries
pub record Leg (queue from : List ℕ) (k : ℕ) (walk : List ℕ) (n : ℕ) (way walk' : List ℕ) (n' : ℕ) : Type 0 where
  pub way_long : length way ≡ most_places
  pub walk_long : length walk' ≡ walk_room
  pub more : n < n'
  pub short : n' ≤ n + suc k
  pub before : (i : ℕ) → i < n → at walk' i ≡ at walk i
  pub first : Root queue from k (at walk' n)
  pub last : at walk' (n' - 1) ≡ at queue k
  pub link : (i : ℕ) → n ≤ i → suc i < n' → Link queue from k (at walk' i) (at walk' (suc i))

module _ (I N : ℕ) (rows to : List ℕ) where
  pub record Walking (X : List ℕ) (v w : ℕ) (walk : List ℕ) (n : ℕ) : Type 0 where
    pub long : length walk ≡ walk_room
    pub some : 0 < n
    pub first : at walk 0 ≡ v
    pub last : at walk (n - 1) ≡ w
    pub below : (k : ℕ) → k < n → at walk k < N
    pub inside : (k : ℕ) → k < n → marked X (at walk k) ≡ true
    pub turn : (k : ℕ) → suc k < n → follows I rows to (at walk k) (at walk (suc k)) ≡ true

  -- what the pivot reaches misses an input set; or the pivot does not reach itself
  pub record Removed (q : Requirement) (X Y : List ℕ) : Type 0 where
    pub pivot : ℕ
    pub below : pivot < N
    pub found : ℕ → Bool
    pub enter : (k : ℕ) → k < N → follows I rows to pivot k ≡ true → marked X k ≡ true → found k ≡ true
    pub on : (k l : ℕ) → k < N → l < N → found k ≡ true → follows I rows to k l ≡ true → marked X l ≡ true → found l ≡ true
    pub why : ((j : ℕ) × (j < q.assumed) × ((k : ℕ) → k < N → found k ≡ true → has (assumption q j) (k % I) ≡ false)
        × ((k : ℕ) → k < N → marked X k ≡ true → marked Y k ≡ false → (found k ≡ true) ⊎ (k ≡ pivot)))
        ⊎ ((found pivot ≡ false) × ((k : ℕ) → k < N → marked X k ≡ true → marked Y k ≡ false → k ≡ pivot))
    pub only : (k : ℕ) → marked Y k ≡ true → marked X k ≡ true
    pub fewer : count N (marked Y) < count N (marked X)

  pub record Round (q : Requirement) (X walk : List ℕ) (n : ℕ) : Type 0 where
    pub place : ℕ
    pub walking : Walking X place place walk n
    pub turns : 1 < n
    pub short : n ≤ 20481
    pub visits : (j : ℕ) → j < q.assumed → (k : ℕ) × (k < n) × (has (assumption q j) (at walk k % I) ≡ true)

  pub record LegsFit (q : Requirement) (X mark queue from way walk : List ℕ) (n v : ℕ) : Type 0 where
    pub grid : Grid I N rows to
    pub few : q.assumed ≤ 4
    pub reach : Reach I N rows to X v mark queue from n
    pub way_long : length way ≡ most_places
    pub walking : Walking X v v walk 1

  -- the legs visit the assumptions in turn; the last search is the one from where they end
  pub record Legs (q : Requirement) (X : List ℕ) (v : ℕ) (mark mark' queue' from' way' walk' : List ℕ) (r : Course) : Type 0 where
    pub reach : Reach I N rows to X r.end mark' queue' from' r.found
    pub way_long : length way' ≡ most_places
    pub length : ℕ
    pub walking : Walking X v r.end walk' length
    pub short : length ≤ 1 + q.assumed * most_places
    pub less : (a : ℕ) → marked mark' a ≡ true → marked mark a ≡ true
    pub lacks : r.length ≡ None → (j : ℕ) × (j < q.assumed) × ((k : ℕ) → k < r.found → has (assumption q j) (at queue' k % I) ≡ false)
    pub visits : (n : ℕ) → r.length ≡ Some n → (n ≡ length)
        × ((j : ℕ) → j < q.assumed → (k : ℕ) × (k < n) × (has (assumption q j) (at walk' k % I) ≡ true))

  pub record AttemptFits (q : Requirement) (kept mark queue from way walk : List ℕ) (n v : ℕ) : Type 0 where
    pub grid : Grid I N rows to
    pub few : q.assumed ≤ 4
    pub sized : Sized mark queue from
    pub held : Held mark queue n
    pub kept_long : length kept ≡ most_places
    pub way_long : length way ≡ most_places
    pub walk_long : length walk ≡ walk_room
    pub below : v < N
    pub inside : marked kept v ≡ true

  pub record Attempted (q : Requirement) (kept kept' mark' queue' from' way' walk' : List ℕ) (r : Tried) : Type 0 where
    pub sized : Sized mark' queue' from'
    pub held : Held mark' queue' r.found
    pub kept_long : length kept' ≡ most_places
    pub way_long : length way' ≡ most_places
    pub walk_long : length walk' ≡ walk_room
    pub removed : r.round ≡ None → Removed q kept kept'
    pub round : (n : ℕ) → r.round ≡ Some n → Round q kept walk' n
