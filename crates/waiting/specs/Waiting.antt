-- The right to wait: how long the new drive may dawdle. Dead ends are allowed.
--
--   ours g                 == our controller: the table read from the entries that the solver writes
--   KeptFrom g x           == x is a configuration from which a play is kept by our controller: a won position, with a counter in range
--   StaysIn g c x y        == a turn of our controller, the panel staying in the component of c
--   entered w              == the configurations that a walk enters, one for each reply
--   AtHome g x y           == the output of y lies in the home of x
--   RightToWait g          == the claims
use Rattle.std.specs.Prelude.{ℕ, suc, ◌-◌, ◌*◌, ◌≤◌, ◌<◌, max, ◌≡◌, true, List, [], ◌∷◌, length}
use Rattle.graphs.specs.Walk.{Walk, stay, step}
use Rattle.graphs.specs.Graph.{Moves}
use Rattle.graphs.specs.Component.{joined, nontrivial, meets_at}
use Rattle.arena.specs.Table.{Some, ControllerTable}
use Rattle.arena.specs.Play.{Configuration, ControllerFirst, ControllerTurn, Reachable, visits_output}
use Rattle.arena.specs.Win.{Won, SystemWins}
use Rattle.game.specs.declared.Game.{Game}
use Rattle.play.specs.Play.{graph_of, separated_of}
use Rattle.theory.specs.Tour.{goal_at}
use Rattle.theory.specs.Choice.{guarantees, home}
use Rattle.theory.specs.Entries.{controller_entries}
use Rattle.demands.specs.Demands.{play_of, controller_of}

unfoldable pub ours : Game → ControllerTable
ours g = controller_of g (controller_entries (separated_of g))

pub record KeptFrom (g : Game) (x : Configuration) : Type 0 where
  pub input : x.input < g.input.states
  pub output : x.output < g.output.states
  pub memory : x.memory < (ours g).memories
  pub won : Won (play_of g) x.input x.output

-- "While the panel stays in one stayable component" (SPEC 14.5)
pub record StaysIn (g : Game) (c : ℕ) (x y : Configuration) : Type 0 where
  pub turn : ControllerTurn (play_of g) (ours g) x y
  pub here : joined (graph_of g.input) c y.input ≡ true

unfoldable pub entered : {A : Type 0} {R : A → A → Type 0} {a b : A} → Walk R a b → List A
entered stay = []
entered (step {b = b} r w) = b ∷ entered w

-- "home is the lowest-numbered stayable component D such that o reaches it, .." (SPEC 14.5)
pub record AtHome (g : Game) (x y : Configuration) : Type 0 where
  pub there : joined (graph_of g.output) (home (separated_of g) x.input x.output) y.output ≡ true

-- SPEC 14.4, 14.5
pub record RightToWait (g : Game) : Type 0 where
  -- "if a position is won, then so is each position whose input is reachable from its input and whose output reaches its output" (SPEC 14.4)
  pub waits : (i i' o o' : ℕ) → i < g.input.states → o < g.output.states
      → Walk (Moves (graph_of g.input)) i i' → Walk (Moves (graph_of g.output)) o' o → Won (play_of g) i o → Won (play_of g) i' o'
  -- "a play kept by our controller is at home within outputs − 1 replies" (SPEC 14.5)
  pub homecoming : (x y : Configuration) → KeptFrom g x → nontrivial (graph_of g.input) x.input ≡ true
      → (w : Walk (StaysIn g x.input) x y) → g.output.states - 1 ≤ length (entered w) → AtHome g x y
  -- the replies counted from the one to the input that enters the component:
  pub arrives : (x b y : Configuration) → KeptFrom g x → ControllerTurn (play_of g) (ours g) x b → nontrivial (graph_of g.input) b.input ≡ true
      → (w : Walk (StaysIn g b.input) b y) → g.output.states - 1 ≤ suc (length (entered w)) → AtHome g b y
  -- "and from then on enters each output set that meets home within max(1, G) × outputs replies" (SPEC 14.5)
  pub visits : (x y z : Configuration) → KeptFrom g x → nontrivial (graph_of g.input) x.input ≡ true
      → Walk (StaysIn g x.input) x y → AtHome g x y
      → (w : Walk (StaysIn g x.input) y z) → max 1 (length (guarantees (separated_of g))) * g.output.states ≤ length (entered w)
      → (q : ℕ) → q < length (guarantees (separated_of g))
      → meets_at (graph_of g.output) (home (separated_of g) x.input x.output) (goal_at (guarantees (separated_of g)) q) ≡ true
      → visits_output (goal_at (guarantees (separated_of g)) q) (entered w) ≡ true
  -- "a play kept by our controller": what a turn makes of a configuration that the claims are about is another, (SPEC 14.5)
  pub keeps : (x y : Configuration) → KeptFrom g x → ControllerTurn (play_of g) (ours g) x y → KeptFrom g y
  -- our table answers every input that the panel may move to from such a configuration, (SPEC 14.5)
  pub answers : (x : Configuration) → KeptFrom g x → (j : ℕ) → (play_of g).in_move x.input j ≡ true
      → Some (ours g).memories ((play_of g).reply j x.output) ((ours g).step x.memory x.output j)
  -- and in a game that the system wins, the claims are about every configuration that our table comes to
  pub begins : SystemWins (play_of g) → (x : Configuration) → Reachable (ControllerFirst (play_of g) (ours g)) (ControllerTurn (play_of g) (ours g)) x
      → KeptFrom g x
