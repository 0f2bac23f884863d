-- A controller's table of an accepted game, as places.
--
--   Ready g M l          == the game is accepted, M is how many counters its controllers have, l has a controller's length, and there are few places
--   Filled g l to n      == the first n entries of `to` are where the rows of the table l lead
use Rattle.std.specs.Prelude.{ℕ, ◌≤◌, ◌<◌, ◌≡◌, List, length, get_or}
use Rattle.game.specs.declared.Game.{Game}
use Rattle.game.specs.Acceptance.{accepted, acceptance}
use Rattle.play.specs.Play.{separated_of}
use Rattle.theory.specs.Entries.{controller_counters, controller_entries}
use Rattle.demands.specs.Demands.{play_of, controller_of}
use Rattle.checker_places.specs.Place.{most_places, place_count, leads}

pub record Ready (g : Game) (M : ℕ) (l : List ℕ) : Type 0 where
  pub accepted : acceptance g ≡ accepted
  pub counters : M ≡ controller_counters (separated_of g)
  pub long : length l ≡ length (controller_entries (separated_of g))
  pub few : place_count (play_of g) M ≤ most_places

pub record Filled (g : Game) (l to : List ℕ) (n : ℕ) : Type 0 where
  pub size : length to ≡ most_places
  pub upto : n ≤ place_count (play_of g) (controller_counters (separated_of g))
  pub row : (k : ℕ) → k < n → get_or to k 0 ≡ leads (play_of g) (controller_of g l) k
