-- Settling a component: its positions that are won.
--
--   Growing g l            == the component's positions that are marked won are won, and the rest ahead of it is right
--   Shrinking g l          == the component's won positions are marked, and the rest ahead of it is right
--   missing g l            == how many positions of the component are not marked
--   marked g l             == how many positions of the component are marked
--   Grew g l m b           == a sweep has marked positions that force what is marked; b tells whether there were any
--   Shrank g l m b         == a sweep has taken out positions that do not force what is marked; b tells whether there were any
--   Forced, Safe           == of crate joint: where such sweeps end
--   Unsettled g i o l      == the component is that of (i, o), none of it is marked, and the rest ahead of it is right
--   ComponentSettled g l m == the component's positions are marked where they are won, and no other position has changed
use Rattle.std.specs.Prelude.{ℕ, ◌*◌, ◌/◌, ◌%◌, ◌<◌, ◌≡◌, Bool, true, false, not, ◌&&◌, List}
use Rattle.finite.specs.Bounded.{count}
use Rattle.finite.specs.But.{ButFor}
use Rattle.theory.specs.Region.{region}
use Rattle.joint.specs.Solver.{Component, Ahead, Below, Above, Forced, Safe}
use Rattle.game.specs.declared.Game.{Game}
use Rattle.play.specs.Play.{separated_of}
use Rattle.joined_component.specs.Component.{won, component}

pub record Growing (g : Game) (l : List ℕ) : Type 0 where
  pub whole : Component (separated_of g) (component g l)
  pub ahead : Ahead (separated_of g) (component g l) (won g l)
  pub below : Below (separated_of g) (component g l) (won g l)
  pub within : (i o : ℕ) → won g l i o ≡ true → o < g.output.states

pub record Shrinking (g : Game) (l : List ℕ) : Type 0 where
  pub whole : Component (separated_of g) (component g l)
  pub ahead : Ahead (separated_of g) (component g l) (won g l)
  pub above : Above (separated_of g) (component g l) (won g l)
  pub within : (i o : ℕ) → won g l i o ≡ true → o < g.output.states

unfoldable pub missing : Game → List ℕ → ℕ
missing g l =
    count (g.input.states * g.output.states)
    (λ c. component g l (c / g.output.states) (c % g.output.states) && not (won g l (c / g.output.states) (c % g.output.states)))

unfoldable pub marked : Game → List ℕ → ℕ
marked g l =
    count (g.input.states * g.output.states)
    (λ c. component g l (c / g.output.states) (c % g.output.states) && won g l (c / g.output.states) (c % g.output.states))

-- what a sweep leaves: only the marks of the component change
pub record Swept (g : Game) (l m : List ℕ) : Type 0 where
  pub kept : ButFor 64 96 l m
  pub outside : (i o : ℕ) → component g l i o ≡ false → won g m i o ≡ won g l i o

pub record Grew (g : Game) (l m : List ℕ) (b : Bool) : Type 0 where
  pub swept : Swept g l m
  pub growing : Growing g m
  pub fewer : b ≡ true → missing g m < missing g l
  pub ended : b ≡ false → Forced (separated_of g) (component g m) (won g m)

pub record Shrank (g : Game) (l m : List ℕ) (b : Bool) : Type 0 where
  pub swept : Swept g l m
  pub shrinking : Shrinking g m
  pub fewer : b ≡ true → marked g m < marked g l
  pub ended : b ≡ false → Safe (separated_of g) (component g m) (won g m)

pub record Unsettled (g : Game) (i o : ℕ) (l : List ℕ) : Type 0 where
  pub whole : Component (separated_of g) (component g l)
  pub root : component g l i o ≡ true
  pub ahead : Ahead (separated_of g) (component g l) (won g l)
  pub apart : (j p : ℕ) → component g l j p ≡ true → won g l j p ≡ false
  pub within : (j p : ℕ) → won g l j p ≡ true → p < g.output.states

pub record ComponentSettled (g : Game) (l m : List ℕ) : Type 0 where
  pub swept : Swept g l m
  pub right : (j p : ℕ) → component g l j p ≡ true → won g m j p ≡ region (separated_of g) j p
  pub within : (j p : ℕ) → won g m j p ≡ true → p < g.output.states
