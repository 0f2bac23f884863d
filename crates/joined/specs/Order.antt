-- The order of the solver: from the last components backward.
--
--   Backward g n l          == every component with fewer than n positions ahead is settled in scratch l
--   SettledWith g n i o l m == so it is in m, and the component of (i, o) is settled too
--   Passed g n k l m        == so it is in m, and those of the first k positions with n ahead too
--   JoinedSolved g l        == the marks in scratch l are the winning region
use Rattle.std.specs.Prelude.{ℕ, ◌+◌, ◌*◌, ◌/◌, ◌%◌, ◌<◌, ◌≡◌, true, List, get_or}
use Rattle.finite.specs.But.{ButFor}
use Rattle.joint.specs.Joint.{rank_at}
use Rattle.joint.specs.Solver.{Settled}
use Rattle.game.specs.declared.Game.{Game}
use Rattle.play.specs.Play.{separated_of}
use Rattle.map_marks.specs.Marks.{map_row}
use Rattle.joined_reach.specs.Words.{won_at, Ranked}
use Rattle.joined_component.specs.Component.{won, known}

pub record Backward (g : Game) (n : ℕ) (l : List ℕ) : Type 0 where
  pub settled : Settled (separated_of g) n (known g l) (won g l)
  pub ranked : Ranked g (g.input.states * g.output.states) l
  pub within : (i o : ℕ) → won g l i o ≡ true → o < g.output.states

pub record SettledWith (g : Game) (n i o : ℕ) (l m : List ℕ) : Type 0 where
  pub kept : ButFor 0 2048 l m
  pub backward : Backward g n m
  pub more : (j p : ℕ) → known g l j p ≡ true → known g m j p ≡ true
  pub here : known g m i o ≡ true

pub record Passed (g : Game) (n k : ℕ) (l m : List ℕ) : Type 0 where
  pub kept : ButFor 0 2048 l m
  pub backward : Backward g n m
  pub done : (c : ℕ) → c < k → rank_at (separated_of g) (c / g.output.states) (c % g.output.states) ≡ n
      → known g m (c / g.output.states) (c % g.output.states) ≡ true

pub record JoinedSolved (g : Game) (l : List ℕ) : Type 0 where
  pub rows : (i : ℕ) → i < g.input.states → get_or l (won_at + i) 0 ≡ map_row g i
