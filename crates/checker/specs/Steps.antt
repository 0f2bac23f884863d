-- What the checker's steps do.
--
--   RoundFits, RoundWritten    == a round written behind the way to its first place
--   Found g l w w' r           == the answer r to a table of an accepted game, the room w being left as w'
use Rattle.std.specs.Prelude.{ℕ, ◌≤◌, ◌<◌, ◌≡◌, List, length, get_or}
use Rattle.game.specs.declared.Game.{Game}
use Rattle.checker_search.specs.Queues.{at, Copied, Finders}
use Rattle.checker_reach.specs.Reach.{Stem}
use Rattle.checker.specs.Checked.{Checked}
use Rattle.checker.specs.Check.{checker_number, walk_length, Told}
use Rattle.checker_places.specs.Place.{walk_room, most_places}

pub record RoundFits (queue from : List ℕ) (n : ℕ) (walk : List ℕ) (c : ℕ) (room : List ℕ) : Type 0 where
  pub few : n ≤ most_places
  pub finders : (k : ℕ) → k < n → Finders k from
  pub there : (k : ℕ) × (k < n) × (at queue k ≡ at walk 0)
  pub walk_long : length walk ≡ walk_room
  pub turns : 1 < c
  pub short : c ≤ 20481
  pub room_long : walk_room ≤ length room

pub record RoundWritten (queue from : List ℕ) (n : ℕ) (walk : List ℕ) (c : ℕ) (room room' : List ℕ) (m : ℕ) : Type 0 where
  pub place : ℕ
  pub found : place < n
  pub short : m ≤ most_places
  pub same : at queue place ≡ at walk 0
  pub way : List ℕ
  pub stem : Stem queue from place room way m
  pub round : Copied walk 1 c way m room'

pub record Found (g : Game) (l w w' : List ℕ) (r : Checked) : Type 0 where
  pub number : checker_number r ≡ 0
  pub told : Told g l w' r
  pub fits : walk_length r ≤ walk_room
  pub long : length w' ≡ length w
  pub rest : (k : ℕ) → walk_length r ≤ k → get_or w' k 0 ≡ get_or w k 0
  pub whole : walk_length r ≡ 0 → w' ≡ w
