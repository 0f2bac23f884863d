-- What a joined position reaches, worked out row by row.
--
--   Next g x r                 == r are the outputs that a member of x moves to
--   Grown j y w w' l m         == the outputs y have joined row j of the set of found positions; w waits before and w' after
--   Entered g r y w w' l m     == the outputs y have joined the rows of all inputs that r moves to
--   Waiting g w l              == the inputs w wait, and what is found are positions
--   Followed g w w' l m        == the lowest row that waits has been followed
--   Reached g i o l m          == the positions that (i, o) reaches are found
--   Within g l                 == what is found are positions
--   found_below g l k           == how many of the first k positions are found
--   Counted g l m              == how many positions each position reaches has been written down
use Rattle.std.specs.Prelude.{ℕ, ◌*◌, ◌/◌, ◌%◌, ◌<◌, ◌≡◌, true, false, ◌&&◌, ◌||◌, ◌⊎◌, ◌≢◌, List, length, get_or}
use Rattle.finite.specs.Bounded.{least, count}
use Rattle.finite.specs.But.{ButFor}
use Rattle.bits.specs.Member.{has}
use Rattle.graphs.specs.Graph.{edge}
use Rattle.joint.specs.Joint.{reaches_at}
use Rattle.joint.specs.Close.{Taken}
use Rattle.game.specs.declared.Game.{Game}
use Rattle.play.specs.Play.{graph_of, separated_of}
use Rattle.joined_reach.specs.Words.{found_at, followed_at, belongs, Ranked}

pub record Next (g : Game) (x r : ℕ) : Type 0 where
  pub new : (q : ℕ) → has r q ≡ true → (p : ℕ) × (has x p ≡ true) × (edge (graph_of g.output) p q ≡ true)
  pub all : (p q : ℕ) → has x p ≡ true → edge (graph_of g.output) p q ≡ true → has r q ≡ true

pub record Grown (j y w w' : ℕ) (l m : List ℕ) : Type 0 where
  pub long : length m ≡ length l
  pub row : (q : ℕ) → has (get_or m j 0) q ≡ (has (get_or l j 0) q || has y q)
  pub others : (k : ℕ) → k ≢ j → get_or m k 0 ≡ get_or l k 0
  -- an input waits where it waited before, or where its row grew
  pub waits : (k : ℕ) → has w' k ≡ true → (has w k ≡ true) ⊎ ((k ≡ j) × ((q : ℕ) × (has y q ≡ true) × (has (get_or l j 0) q ≡ false)))
  pub still : (k : ℕ) → has w' k ≡ false → (has w k ≡ false) × (k ≡ j → (q : ℕ) → has y q ≡ true → has (get_or l j 0) q ≡ true)

pub record Entered (g : Game) (r y w w' : ℕ) (l m : List ℕ) : Type 0 where
  pub kept : ButFor 0 32 l m
  pub found : (k q : ℕ) → k < g.input.states → has (get_or m k 0) q ≡ (has (get_or l k 0) q || (edge (graph_of g.input) r k && has y q))
  pub waits : (k : ℕ) → has w' k ≡ true → (has w k ≡ true) ⊎ ((q : ℕ) × (has (get_or m k 0) q ≡ true) × (has (get_or l k 0) q ≡ false))
  pub still : (k : ℕ) → has w' k ≡ false → (has w k ≡ false) × ((q : ℕ) → has (get_or m k 0) q ≡ true → has (get_or l k 0) q ≡ true)
  pub inputs : (k : ℕ) → has w' k ≡ true → (has w k ≡ true) ⊎ (k < g.input.states)

pub record Within (g : Game) (l : List ℕ) : Type 0 where
  pub outputs : (j p : ℕ) → j < g.input.states → has (get_or l j 0) p ≡ true → p < g.output.states

pub record Waiting (g : Game) (w : ℕ) (l : List ℕ) : Type 0 where
  pub inputs : (j : ℕ) → has w j ≡ true → j < g.input.states
  pub within : Within g l

pub record Followed (g : Game) (w w' : ℕ) (l m : List ℕ) : Type 0 where
  pub kept : ButFor 0 64 l m
  pub next : ℕ
  pub taken : Taken (separated_of g) (least 64 (has w)) (has next) (has w) (belongs g.input.states followed_at l) (belongs g.input.states found_at l)
      (has w') (belongs g.input.states followed_at m) (belongs g.input.states found_at m)
  pub inputs : (k : ℕ) → has w' k ≡ true → (has w k ≡ true) ⊎ (k < g.input.states)

pub record Reached (g : Game) (i o : ℕ) (l m : List ℕ) : Type 0 where
  pub kept : ButFor 0 64 l m
  pub within : Within g m
  pub found : (j p : ℕ) → j < g.input.states → p < g.output.states → has (get_or m j 0) p ≡ reaches_at (separated_of g) i o j p

unfoldable pub found_below : Game → List ℕ → ℕ → ℕ
found_below g l k = count k (λ c. belongs g.input.states found_at l (c / g.output.states) (c % g.output.states))

pub record Counted (g : Game) (l m : List ℕ) : Type 0 where
  pub kept : ButFor 0 2048 l m
  pub ranked : Ranked g (g.input.states * g.output.states) m
