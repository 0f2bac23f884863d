-- Demands 2 and 3 of every accepted game, and that the winner's table is never the one that is stopped.
use mathlib.Core.Path.{◌≡◌}
use mathlib.Core.Bool.{true, false}
use Rattle.arena.specs.Win.{system, environment, DemandThree}
use Rattle.arena.specs.Stopped.{NeverStopped}
use Rattle.arena.proofs.Bounds.{bounded_arena_of}
use Rattle.arena.proofs.Stopped as arena
use Rattle.game.specs.declared.Game.{Game}
use Rattle.game.specs.Acceptance.{accepted, acceptance}
use Rattle.play.specs.Play.{graph_of, separated_of}
use Rattle.theory.specs.Region.{region, verdict}
use Rattle.theory.specs.Entries.{controller_entries, environment_entries, outcome}
use Rattle.theory.proofs.Demands as theory
use Rattle.demands.specs.Demands.{play_of, DemandTwo, controller_of, environment_of}
use Rattle.demands.proofs.Sizes.{accepted_sized}

-- Demand 2: the region marks exactly the won positions.

pub demand_two : (g : Game) → DemandTwo g (region (separated_of g))
unfolding play_of separated_of graph_of
demand_two g = record { marks = λ i o a b. theory.demand_two (separated_of g) i o a b }

-- Demand 3: for every accepted game exactly one side holds a winning table, tables of every finite size counted, the verdict names it, and the list
-- of entries of that side, read as a table, wins.
pub demand_three : (g : Game) → acceptance g ≡ accepted → DemandThree (play_of g) (outcome (separated_of g))
unfolding play_of
demand_three g a = theory.demand_three (separated_of g) (accepted_sized g a)

pub demand_three_system : (g : Game) → acceptance g ≡ accepted → verdict (separated_of g) ≡ true
    → DemandThree (play_of g) (system (controller_of g (controller_entries (separated_of g))))
unfolding play_of controller_of separated_of graph_of outcome
demand_three_system g a v = rw (v, outcome) at (theory.demand_three (separated_of g) (accepted_sized g a))

pub demand_three_environment : (g : Game) → acceptance g ≡ accepted → verdict (separated_of g) ≡ false
    → DemandThree (play_of g) (environment (environment_of g (environment_entries (separated_of g))))
unfolding play_of environment_of separated_of graph_of outcome
demand_three_environment g a v = rw (v, outcome) at (theory.demand_three (separated_of g) (accepted_sized g a))

-- "As before the winner's table is handed over: its rounds are right and its side never gets stuck first." (M-102)
pub never_stopped : (g : Game) → acceptance g ≡ accepted → NeverStopped (play_of g) (outcome (separated_of g))
unfolding play_of
never_stopped g a = arena.never_stopped (bounded_arena_of (separated_of g)) (outcome (separated_of g)) (demand_three g a)
