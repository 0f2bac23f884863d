-- The winning region of the game with bars, in scratch; l are the sets of scratch before, and m after.
--
--   only g                    == the requirement: with bars a game has one
--   bar_of b                   == the pairs that the sets b bar, one set of outputs for each input
--   Waits g w j               == w are the inputs of set number j that is waited for
--   WidenedBy g v w l m r     == where the controller can stay has been added to what is reached, v being the goal and w waited for; r tells whether
--                                that added a position
--   Widened g v k l m r       == so it is for the sets from number k on, the last first, up to the first that adds a position
--   ReachFound g v l m        == what is reached is found
--   Trimmed g l m             == what is kept has been trimmed
--   Settled g v l m r         == what does not reach the goal v has been taken out of what is kept; r tells whether there was any
--   Passed g k l m r          == so it is for the first k output sets
--   Freed g k b l m           == the first k rows of what is kept have what is not barred
--   RegionKept g b l m        == what is kept is the winning region
use Rattle.std.specs.Prelude.{ℕ, ◌+◌, ◌≤◌, ◌<◌, ◌≡◌, Bool, true, false, ◌&&◌, ◌||◌, not, List, ltb, get_or, length}
use Rattle.finite.specs.But.{ButFor}
use Rattle.bits.specs.Member.{has, pack}
use Rattle.sets.specs.Words.{bits_of}
use Rattle.arena.specs.Arena.{Requirement}
use Rattle.theory.specs.Region.{replies}
use Rattle.theory.specs.Tour.{goal_at}
use Rattle.barred.specs.Arena.{Pairs}
use Rattle.barred.specs.Region.{assumed, nothing, stay, reach, barred_region}
use Rattle.game.specs.declared.Game.{Game}
use Rattle.game.specs.Access.{requirement_at, guarantee_at}
use Rattle.play.specs.Play.{separated_of, requirement_of}
use Rattle.barred_rows.specs.Areas.{kept_pairs, reached_pairs, kept_at, reached_at, staying_at}

unfoldable pub only : Game → Requirement
only g = requirement_of (requirement_at g 0)

-- "Bars are lent beside the game, one set of outputs an input" (SPEC 15.1)
abbrev pub bar_of : List ℕ → Pairs
bar_of b i o = has (get_or b i 0) o

-- the pairs of p are among those of q, as far as they are positions of g
pub record Among (g : Game) (p q : Pairs) : Type 0 where
  pub all : (i o : ℕ) → i < g.input.states → o < g.output.states → p i o ≡ true → q i o ≡ true

pub record Waits (g : Game) (w j : ℕ) : Type 0 where
  pub same : (i : ℕ) → i < g.input.states → has w i ≡ goal_at (assumed (only g)) j i

pub record WidenedBy (g : Game) (v w : ℕ) (l m : List ℕ) (r : Bool) : Type 0 where
  pub apart : ButFor reached_at (staying_at + g.input.states) l m
  pub row : (i o : ℕ) → i < g.input.states → o < g.output.states
      → reached_pairs m i o ≡ (reached_pairs l i o || stay (separated_of g) (has v) (has w) (kept_pairs l) (reached_pairs l) i o)
  pub some : r ≡ true → (i : ℕ) × (o : ℕ) × (i < g.input.states) × (o < g.output.states) × (reached_pairs l i o ≡ false) × (reached_pairs m i o ≡ true)
  pub none : r ≡ false → Among g (stay (separated_of g) (has v) (has w) (kept_pairs l) (reached_pairs l)) (reached_pairs l)

pub record Widened (g : Game) (v k : ℕ) (l m : List ℕ) (r : Bool) : Type 0 where
  pub apart : ButFor reached_at (staying_at + g.input.states) l m
  pub more : Among g (reached_pairs l) (reached_pairs m)
  pub sound : Among g (reached_pairs l) (reach (separated_of g) (only g) (has v) (kept_pairs l))
      → Among g (reached_pairs m) (reach (separated_of g) (only g) (has v) (kept_pairs l))
  pub some : r ≡ true → (i : ℕ) × (o : ℕ) × (i < g.input.states) × (o < g.output.states) × (reached_pairs l i o ≡ false) × (reached_pairs m i o ≡ true)
  pub same : r ≡ false → Among g (reached_pairs m) (reached_pairs l)
  pub none : r ≡ false → (j : ℕ) → k ≤ j → j < length (assumed (only g))
      → Among g (stay (separated_of g) (has v) (goal_at (assumed (only g)) j) (kept_pairs l) (reached_pairs l)) (reached_pairs l)

pub record ReachFound (g : Game) (v : ℕ) (l m : List ℕ) : Type 0 where
  pub apart : ButFor reached_at (staying_at + g.input.states) l m
  pub found : (i o : ℕ) → i < g.input.states → o < g.output.states
      → reached_pairs m i o ≡ reach (separated_of g) (only g) (has v) (kept_pairs l) i o

abbrev pub never : ℕ → Bool
never s = false

pub record Trimmed (g : Game) (l m : List ℕ) : Type 0 where
  pub apart : ButFor kept_at (staying_at + g.input.states) l m
  pub inside : (i o : ℕ) → i < g.input.states → kept_pairs m i o ≡ true → kept_pairs l i o ≡ true
  pub found : (i o : ℕ) → i < g.input.states → o < g.output.states
      → kept_pairs m i o ≡ stay (separated_of g) never never (kept_pairs l) nothing i o

-- in every kept position each next input has a reply that is kept
pub record Endless (g : Game) (l : List ℕ) : Type 0 where
  pub replied : (i o : ℕ) → i < g.input.states → o < g.output.states → kept_pairs l i o ≡ true → replies (separated_of g) (kept_pairs l) i o ≡ true

pub record Settled (g : Game) (v : ℕ) (l m : List ℕ) (r : Bool) : Type 0 where
  pub apart : ButFor kept_at (staying_at + g.input.states) l m
  pub inside : (i o : ℕ) → i < g.input.states → kept_pairs m i o ≡ true → kept_pairs l i o ≡ true
  -- no part of the winning region is taken out
  pub sound : (p : Pairs) → Among g p (reach (separated_of g) (only g) (has v) (kept_pairs l))
      → ((z : Pairs) → Among g p z → Among g p (stay (separated_of g) never never z nothing)) → Among g p (kept_pairs m)
  pub endless : Endless g l → Endless g m
  pub some : r ≡ true → (i : ℕ) × (o : ℕ) × (i < g.input.states) × (o < g.output.states) × (kept_pairs l i o ≡ true) × (kept_pairs m i o ≡ false)
  pub same : r ≡ false → (i o : ℕ) → i < g.input.states → kept_pairs m i o ≡ kept_pairs l i o
  pub none : r ≡ false → Among g (kept_pairs l) (reach (separated_of g) (only g) (has v) (kept_pairs l))

pub record Passed (g : Game) (k : ℕ) (l m : List ℕ) (r : Bool) : Type 0 where
  pub apart : ButFor kept_at (staying_at + g.input.states) l m
  pub inside : (i o : ℕ) → i < g.input.states → kept_pairs m i o ≡ true → kept_pairs l i o ≡ true
  pub sound : (bar : Pairs) → Among g (barred_region (separated_of g) bar (only g)) (kept_pairs l)
      → Among g (barred_region (separated_of g) bar (only g)) (kept_pairs m)
  pub endless : Endless g l → Endless g m
  pub some : r ≡ true → (i : ℕ) × (o : ℕ) × (i < g.input.states) × (o < g.output.states) × (kept_pairs l i o ≡ true) × (kept_pairs m i o ≡ false)
  pub same : r ≡ false → (i o : ℕ) → i < g.input.states → kept_pairs m i o ≡ kept_pairs l i o
  pub none : r ≡ false → (j : ℕ) → j < k → Among g (kept_pairs l) (reach (separated_of g) (only g) (has (bits_of (guarantee_at g 0 j).0)) (kept_pairs l))

pub record Freed (g : Game) (k : ℕ) (b l m : List ℕ) : Type 0 where
  pub apart : ButFor kept_at k l m
  pub row : (i o : ℕ) → i < k → kept_pairs m i o ≡ (ltb o g.output.states && not (bar_of b i o))

pub record RegionKept (g : Game) (b l m : List ℕ) : Type 0 where
  pub apart : ButFor kept_at (staying_at + g.input.states) l m
  pub row : (i : ℕ) → i < g.input.states → get_or m i 0 ≡ pack g.output.states (barred_region (separated_of g) (bar_of b) (only g) i)
