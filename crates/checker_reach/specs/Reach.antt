-- What a controller's table reaches, told of places.
--
--   starts g l a          == a is the place of a first configuration
--   OpenFits, Opens       == the first configurations are in the queue, or a start is none
--   NoneAfter             == the lowest next input of a place whose row is none
--   ScanFits, Scanned     == the first place of the queue with such a row
--   StemFits, Stem        == the way to a queue place, at the front of the room
use Rattle.std.specs.Prelude.{ℕ, suc, ◌+◌, ◌-◌, ◌*◌, ◌/◌, ◌%◌, ◌≤◌, ◌<◌, ◌≡◌, Bool, true, ◌&&◌, ◌≢◌, List, eqb, length, get_or, Option}
use Rattle.std.specs.declared.option.Option.TheVariants.{None, Some}
use Rattle.bits.specs.Member.{has}
use Rattle.sets.specs.Words.{sets_in}
use Rattle.game.specs.declared.Game.{Game}
use Rattle.demands.specs.Demands.{play_of, controller_of}
use Rattle.checker_places.specs.Place.{walk_room, most_places, place_count, starting}
use Rattle.checker_search.specs.Turns.{marked}
use Rattle.checker_search.specs.Queues.{at, InQueue, Sized, Queued, Unmarked, Finders, Root, Link}
use Rattle.checker_rows.specs.Rows.{Ready}
use Rattle.checker_reach.specs.declared.Opened.{Opened}
use Rattle.checker_reach.specs.declared.Gap.{Gap}

unfoldable pub starts : Game → List ℕ → ℕ → Bool
starts g l a = (play_of g).in_initial (a % g.input.states) && eqb (starting (play_of g) (controller_of g l) (a % g.input.states)) a

pub record OpenFits (g : Game) (M N : ℕ) (l all mark queue from : List ℕ) : Type 0 where
  pub ready : Ready g M l
  pub places : N ≡ place_count (play_of g) M
  pub every : (a : ℕ) → a < N → marked all a ≡ true
  pub sized : Sized mark queue from
  pub unmarked : Unmarked mark

-- a search whose steps have the test r goes on from these
pub record Opens (g : Game) (N : ℕ) (l mark queue from : List ℕ) (r : Opened) : Type 0 where
  pub queued : Queued N mark queue from r.found
  pub listed : (s : ℕ → ℕ → Bool) → InQueue (starts g l) s N mark queue from r.found
  pub first : r.bad ≡ None → (i : ℕ) → (play_of g).in_initial i ≡ true → marked mark (starting (play_of g) (controller_of g l) i) ≡ true
  pub bad : (i : ℕ) → r.bad ≡ Some i
      → (i < g.input.states) × ((play_of g).in_initial i ≡ true) × (starting (play_of g) (controller_of g l) i ≡ 65535)

abbrev pub NoneAfter : ℕ → List ℕ → List ℕ → ℕ → Option ℕ → Type 0
NoneAfter I rows to c None = (j : ℕ) → has (get_or (sets_in rows) (c % I) 0) j ≡ true → at to (c / I * I + j) ≢ 65535
NoneAfter I rows to c (Some j) = (has (get_or (sets_in rows) (c % I) 0) j ≡ true) × (at to (c / I * I + j) ≡ 65535)

pub record ScanFits (N : ℕ) (queue : List ℕ) (n : ℕ) : Type 0 where
  pub short : n ≤ most_places
  pub below : (k : ℕ) → k < n → at queue k < N

abbrev pub Scanned : ℕ → List ℕ → List ℕ → List ℕ → ℕ → Option Gap → Type 0
Scanned I rows to queue n None = (k : ℕ) → k < n → (j : ℕ) → has (get_or (sets_in rows) (at queue k % I) 0) j ≡ true
    → at to (at queue k / I * I + j) ≢ 65535
Scanned I rows to queue n (Some s) = (s.at < n) × (has (get_or (sets_in rows) (at queue s.at % I) 0) s.input ≡ true)
    × (at to (at queue s.at / I * I + s.input) ≡ 65535)

pub record StemFits (from : List ℕ) (k : ℕ) (way room : List ℕ) : Type 0 where
  pub place : k < most_places
  pub finders : Finders k from
  pub way_long : length way ≡ most_places
  pub room_long : walk_room ≤ length room

pub record Stem (queue from : List ℕ) (k : ℕ) (room room' : List ℕ) (n : ℕ) : Type 0 where
  pub long : length room' ≡ length room
  pub some : 0 < n
  pub short : n ≤ suc k
  pub first : Root queue from k (at room' 0)
  pub last : at room' (n - 1) ≡ at queue k
  pub link : (i : ℕ) → suc i < n → Link queue from k (at room' i) (at room' (suc i))
  pub rest : (i : ℕ) → n ≤ i → at room' i ≡ at room i
