-- A component of the joined graph in scratch, and its test.
--
--   won g l, known g l, component g l  == the sets of joined positions in scratch l
--   ranked_in l m i n o     == the position (i, o) of m outputs is found in l and has n positions ahead
--   Drawn g n l m          == of what is found in l the positions with n ahead are the component in m
--   due_on g x r            == all input sets of requirement r meet the set x of inputs
--   served_on g y r         == all output sets of requirement r meet the set y of outputs
--   accepts_on g x y        == every requirement that is due on x is served on y
--   Rows g l               == the component's rows are sets of outputs
--   Joined g a l m         == the component has joined the set that begins at word a
use Rattle.std.specs.Prelude.{ℕ, ◌+◌, ◌*◌, ◌<◌, ◌≡◌, Bool, true, not, ◌&&◌, ◌||◌, List, eqb, get_or}
use Rattle.finite.specs.Bounded.{all}
use Rattle.finite.specs.But.{ButFor}
use Rattle.bits.specs.Member.{has, sets_meet}
use Rattle.sets.specs.Words.{capacity, bits_of}
use Rattle.game.specs.declared.Game.{Game}
use Rattle.game.specs.declared.Requirement.{Requirement}
use Rattle.game.specs.Access.{no_input, no_output, requirement_at}
use Rattle.joined_reach.specs.Words.{won_at, known_at, component_at, ahead_at, belongs}

abbrev pub won : Game → List ℕ → ℕ → ℕ → Bool
won g l = belongs g.input.states won_at l

abbrev pub known : Game → List ℕ → ℕ → ℕ → Bool
known g l = belongs g.input.states known_at l

abbrev pub component : Game → List ℕ → ℕ → ℕ → Bool
component g l = belongs g.input.states component_at l

unfoldable pub ranked_in : List ℕ → ℕ → ℕ → ℕ → ℕ → Bool
ranked_in l m i n o = eqb (get_or l (ahead_at + (i * m + o)) 0) n

pub record Drawn (g : Game) (n : ℕ) (l m : List ℕ) : Type 0 where
  pub kept : ButFor 128 160 l m
  pub rows : (i o : ℕ) → i < g.input.states
      → has (get_or m (component_at + i) 0) o ≡ (has (get_or l i 0) o && ranked_in l g.output.states i n o)

-- "each SCC in its game graph is either an accepting SCC or a non-accepting SCC" (source document 000, section 6.1), the requirement told of sets (SPEC 14.3)
unfoldable pub due_at : Requirement → ℕ → ℕ → Bool
due_at q x j = sets_meet capacity (bits_of (get_or q.assumptions j no_input).0) x

unfoldable pub due_on : Game → ℕ → ℕ → Bool
due_on g x r = all (requirement_at g r).assumed (due_at (requirement_at g r) x)

unfoldable pub served_at : Requirement → ℕ → ℕ → Bool
served_at q y j = sets_meet capacity (bits_of (get_or q.guarantees j no_output).0) y

unfoldable pub served_on : Game → ℕ → ℕ → Bool
served_on g y r = all (requirement_at g r).guaranteed (served_at (requirement_at g r) y)

unfoldable pub accepts_at : Game → ℕ → ℕ → ℕ → Bool
accepts_at g x y r = not (due_on g x r) || served_on g y r

unfoldable pub accepts_on : Game → ℕ → ℕ → Bool
accepts_on g x y = all g.k (accepts_at g x y)

pub record Rows (g : Game) (l : List ℕ) : Type 0 where
  pub outputs : (i o : ℕ) → component g l i o ≡ true → o < g.output.states

pub record Joined (g : Game) (a : ℕ) (l m : List ℕ) : Type 0 where
  pub kept : ButFor a (a + 32) l m
  pub rows : (i o : ℕ) → i < g.input.states → has (get_or m (a + i) 0) o ≡ (has (get_or l (a + i) 0) o || has (get_or l (component_at + i) 0) o)
