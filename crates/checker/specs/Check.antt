-- What the checker promises, for every input (M-104).
--
--   check_tests g l n        == the tests under their numbers, in the order in which they are tried, the table being l and the room of n entries
--   checker_number r         == the number of the refusal r, 0 for any other answer
--   walk_length r            == how many entries the walk of the answer r has
--   walk_at g w k            == the configuration whose place is entry k of the room w
--   Told g l w r            == what the answer r says of the table l, with its walk in the room w, is true
--   Checks g l w w' r       == the call answers r and leaves the room w as w'
use Rattle.std.specs.Prelude.{ℕ, ◌*◌, ◌≤◌, ◌<◌, ◌≡◌, Bool, List, [], ◌∷◌, ◌++◌, ◌↔◌, leb, length, get_or}
use Rattle.arena.specs.Play.{Configuration}
use Rattle.arena.specs.Win.{ControllerWins, SystemWins}
use Rattle.game.specs.Refusals.{number}
use Rattle.game.specs.declared.Game.{Game}
use Rattle.game.specs.Access.{requirement_at}
use Rattle.game.specs.Numbers.{first_of, game_tests}
use Rattle.play.specs.Play.{requirement_of, separated_of}
use Rattle.theory.specs.Entries.{controller_counters, controller_entries}
use Rattle.demands.specs.Demands.{play_of, controller_of}
use Rattle.player.specs.Player.{fitting}
use Rattle.checker_places.specs.Place.{walk_room, most_places, placed}
use Rattle.checker_places.specs.Finding as finding
use Rattle.checker.specs.Checked.{Checked}
use Rattle.checker.specs.declared.Finding.TheVariants.{Accepted, BadStart, BadRow, BadRound}
use Rattle.std.specs.declared.result.Result.TheVariants.{Ok, Err}

-- "20 inputs × outputs × max(1, G) over 4,096" (SPEC 12.4)

unfoldable pub places_fit : Game → Bool
places_fit g = leb (g.input.states * g.output.states * controller_counters (separated_of g)) most_places

-- "19 table not of the controller's length; 20 ..; both after 7 in that order, then 8 for a walk room too short": "a lent room of 24,576 entries"
-- SPEC 9.1, 12.4
unfoldable pub check_tests : Game → List ℕ → ℕ → List (ℕ × Bool)
check_tests g l n = game_tests g ++ (19, fitting g l) ∷ (20, places_fit g) ∷ (8, leb walk_room n) ∷ []

abbrev pub checker_number : Checked → ℕ
checker_number (Ok Accepted) = 0
checker_number (Ok (BadStart i)) = 0
checker_number (Ok (BadRow n j)) = 0
checker_number (Ok (BadRound n b q)) = 0
checker_number (Err r) = number r

abbrev pub walk_length : Checked → ℕ
walk_length (Ok Accepted) = 0
walk_length (Ok (BadStart i)) = 0
walk_length (Ok (BadRow n j)) = n
walk_length (Ok (BadRound n b q)) = n
walk_length (Err r) = 0

-- "A walk is a list of positions with counters, each written as its place in the order of rows" (SPEC 12.3)
unfoldable pub walk_at : Game → List ℕ → ℕ → Configuration
walk_at g w k = placed g.input.states (controller_counters (separated_of g)) (get_or w k 0)

-- "Otherwise it hands back a walk from a first configuration, where its closing round begins and a requirement that round breaks, or such a walk and
-- the bad row after it, or the bad start". A refusal has a number. (SPEC 12.2)
unfoldable pub Told : Game → List ℕ → List ℕ → Checked → Type 0
Told g l w (Ok Accepted) = ControllerWins (play_of g) (controller_of g l)
Told g l w (Ok (BadStart i)) = finding.BadStart (play_of g) (controller_of g l) i.0
Told g l w (Ok (BadRow n j)) = finding.BadRow (play_of g) (controller_of g l) (walk_at g w) n j.0
Told g l w (Ok (BadRound n b q)) = (q < g.k) × finding.BadRound (play_of g) (controller_of g l) (walk_at g w) n b (requirement_of (requirement_at g q))
Told g l w (Err r) = 0 < number r

-- SPEC 12.1, 12.2, 12.3
pub record Checks (g : Game) (l w w' : List ℕ) (r : Checked) : Type 0 where
  pub number : checker_number r ≡ first_of (check_tests g l (length w))
  -- "The checker accepts one exactly when its starts are allowed, every reachable row is a legal reply .., and every reachable round meets all
  -- requirements." (SPEC 12.1)
  pub accepts : checker_number r ≡ 0 → (r ≡ Ok Accepted) ↔ ControllerWins (play_of g) (controller_of g l)
  pub told : Told g l w' r
  -- "Every controller of ours in a game of this size is accepted." (SPEC 12.1)
  pub ours : checker_number r ≡ 0 → SystemWins (play_of g) → l ≡ controller_entries (separated_of g) → r ≡ Ok Accepted
  -- "in a lent room of 24,576 entries": the walk has no more, however long the room is; "entries past the walk are unchanged", and where there is no
  -- walk, all are (SPEC 12.3)
  pub fits : walk_length r ≤ walk_room
  pub long : length w' ≡ length w
  pub rest : (k : ℕ) → walk_length r ≤ k → get_or w' k 0 ≡ get_or w k 0
  pub whole : walk_length r ≡ 0 → w' ≡ w
