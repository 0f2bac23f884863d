-- A requirement and one of its guarantees, told of lists.
--
--   guarantee q b           == the number of output set b of requirement q
--   KeepFits, Keep          == the reachable places outside an output set
--   Removals q X Y          == places are taken out step by step, X becoming Y
--   PairFits, Emptied       == a set of places is emptied, or has a round
--   Cleared                 == the reachable places outside the guarantee are emptied
--   Broken                  == they have a round that visits every assumption
--   Served, Judged          == that for all guarantees of one requirement, and of all
use Rattle.std.specs.Prelude.{ℕ, ◌/◌, ◌≤◌, ◌<◌, ◌≡◌, true, false, not, ◌&&◌, List, length, get_or, Option, MatchOption}
use Rattle.std.specs.declared.option.Option.TheVariants.{None, Some}
use Rattle.bits.specs.Member.{has}
use Rattle.sets.specs.Words.{capacity, bits_of}
use Rattle.game.specs.declared.Requirement.{Requirement}
use Rattle.game.specs.declared.Game.{Game}
use Rattle.game.specs.Access.{no_output, requirement_at}
use Rattle.checker_search.specs.Turns.{marked, Grid}
use Rattle.checker_search.specs.Queues.{Sized, Held}
use Rattle.checker_rounds.specs.Rounds.{Removed, Round}
use Rattle.checker_rounds.specs.declared.Tried.{Tried}
use Rattle.checker_pairs.specs.declared.Verdict.{Verdict}
use Rattle.checker_places.specs.Place.{walk_room, most_places}

abbrev pub guarantee : Requirement → ℕ → ℕ
guarantee q b = bits_of (get_or q.guarantees b no_output).0

pub record KeepFits (I M N : ℕ) (kept : List ℕ) : Type 0 where
  pub inputs : 0 < I
  pub counters : 0 < M
  pub places : N ≤ most_places
  pub output : (c : ℕ) → c < N → c / I / M < capacity
  pub long : length kept ≡ most_places

pub record Keep (I M N : ℕ) (reached : List ℕ) (x : ℕ) (kept : List ℕ) (n : ℕ) : Type 0 where
  pub size : length kept ≡ most_places
  pub upto : n ≤ N
  pub each : (c : ℕ) → c < n → marked kept c ≡ (marked reached c && not (has x (c / I / M)))

module _ (I N : ℕ) (rows to : List ℕ) where
  pub data Removals (q : Requirement) (X : List ℕ) : List ℕ → Type 0 where
    whole : Removals q X X
    next : {Y Z : List ℕ} → Removals q X Y → Removed I N rows to q Y Z → Removals q X Z

  pub record PairFits (q : Requirement) (kept mark queue from way walk : List ℕ) (n : ℕ) : Type 0 where
    pub grid : Grid I N rows to
    pub few : q.assumed ≤ 4
    pub sized : Sized mark queue from
    pub held : Held mark queue n
    pub kept_long : length kept ≡ most_places
    pub way_long : length way ≡ most_places
    pub walk_long : length walk ≡ walk_room

  pub record Left (mark queue from way walk : List ℕ) (n : ℕ) : Type 0 where
    pub sized : Sized mark queue from
    pub held : Held mark queue n
    pub way_long : length way ≡ most_places
    pub walk_long : length walk ≡ walk_room

  pub record Emptied (q : Requirement) (kept kept' mark' queue' from' way' walk' : List ℕ) (r : Tried) : Type 0 where
    pub left : Left mark' queue' from' way' walk' r.found
    pub kept_long : length kept' ≡ most_places
    pub removals : r.round ≡ None → Removals q kept kept'
    pub none : r.round ≡ None → (k : ℕ) → k < N → marked kept' k ≡ false
    pub round : (n : ℕ) → r.round ≡ Some n → (X : List ℕ) × ((k : ℕ) → marked X k ≡ true → marked kept k ≡ true) × Round I N rows to q X walk' n

  -- M is how many counters there are
  module _ (M : ℕ) where
    pub record Cleared (q : Requirement) (b : ℕ) (reached : List ℕ) : Type 0 where
      pub all : List ℕ
      pub rest : List ℕ
      pub outside : (k : ℕ) → k < N → marked reached k ≡ true → has (guarantee q b) (k / I / M) ≡ false → marked all k ≡ true
      pub removals : Removals q all rest
      pub none : (k : ℕ) → k < N → marked rest k ≡ false

    pub record Broken (q : Requirement) (b : ℕ) (reached walk : List ℕ) (n : ℕ) : Type 0 where
      pub set : List ℕ
      pub reaches : (k : ℕ) → k < N → marked set k ≡ true → marked reached k ≡ true
      pub outside : (k : ℕ) → k < N → marked set k ≡ true → has (guarantee q b) (k / I / M) ≡ false
      pub round : Round I N rows to q set walk n

    pub record ServeFits (q : Requirement) (kept mark queue from way walk : List ℕ) (n : ℕ) : Type 0 where
      pub fits : PairFits q kept mark queue from way walk n
      pub keeps : KeepFits I M N kept
      pub sets : q.guaranteed ≤ 4

    pub record JudgeFits (g : Game) (walk : List ℕ) : Type 0 where
      pub grid : Grid I N rows to
      pub counters : 0 < M
      pub output : (c : ℕ) → c < N → c / I / M < capacity
      pub few : g.k ≤ 8
      pub assumed : (r : ℕ) → r < 8 → (requirement_at g r).assumed ≤ 4
      pub guaranteed : (r : ℕ) → r < 8 → (requirement_at g r).guaranteed ≤ 4
      pub walk_long : length walk ≡ walk_room

    -- the guarantees of q
    pub record Served (q : Requirement) (reached kept' mark' queue' from' way' walk' : List ℕ) (r : Tried) : Type 0 where
      pub left : Left mark' queue' from' way' walk' r.found
      pub kept_long : length kept' ≡ most_places
      pub clear : r.round ≡ None → (b : ℕ) → b < q.guaranteed → Cleared q b reached
      pub broken : (n : ℕ) → r.round ≡ Some n → (b : ℕ) × (b < q.guaranteed) × Broken q b reached walk' n

    pub record Judged (g : Game) (reached walk' : List ℕ) (r : Option Verdict) : Type 0 where
      pub walk_long : length walk' ≡ walk_room
      -- all is clear, or the round of a verdict breaks its requirement
      pub found : MatchOption r ((i : ℕ) → i < g.k → (b : ℕ) → b < (requirement_at g i).guaranteed → Cleared (requirement_at g i) b reached)
          (λ v. (v.requirement < g.k) × ((b : ℕ) × (b < (requirement_at g v.requirement).guaranteed)
          × Broken (requirement_at g v.requirement) b reached walk' v.round))
