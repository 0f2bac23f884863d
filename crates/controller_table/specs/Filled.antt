-- What is filled of the controller's table, of the game S.
--
--   Sheet S y input E          == the list E ends in rows of the table, in the layout y, column b of them being that of the input b
--   ControllerFilled S z P l m == from l to m entries of any such list of the size z were written, those of the rows with P among them
--   Every o c j                == every row
--   HasHome S o d j            == j is in a nontrivial component, and its home at output o is d
--   Away S d o c j             == so it is, and o lies outside the component of d
--   There S d o c j            == so it is, and o lies in the component of d
--   At S d o c j               == so it is, wherever o lies
--   Below S k o c j            == the home of j at o is below k
--   Sized g z                  == an accepted game and the size of its table
--   Given g z s inner          == with scratch that is ready, inner being the inputs in nontrivial components
--   HomeOf S w                 == w is a home with its component and the inputs that have it for their home
--   HomeGoals S w q            == q is the set of the numbers of the guarantees that meet its component
use Rattle.std.specs.Prelude.{ℕ, ◌≤◌, ◌<◌, ◌≡◌, true, false, List, ltb, length}
use Rattle.finite.specs.Bounded.{count}
use Rattle.bits.specs.Member.{has, pack}
use Rattle.graphs.specs.Component.{joined, nontrivial, meets_at}
use Rattle.arena.specs.Arena.{Separated}
use Rattle.game.specs.declared.Game.{Game}
use Rattle.game.specs.Acceptance.{accepted, acceptance}
use Rattle.play.specs.Play.{separated_of}
use Rattle.sets.specs.Words.{bits_of}
use Rattle.scratch.specs.Stored.{Ready}
use Rattle.theory.specs.Region.{region, settles}
use Rattle.theory.specs.Tour.{goal_at}
use Rattle.theory.specs.Choice.{guarantees, home, controller_row}
use Rattle.theory.specs.Entries.{controller_counters}
use Rattle.table_layout.specs.declared.Layout.{Layout}
use Rattle.table_layout.specs.Rows.{most_starts, Rows, Filled as FilledIn}
use Rattle.controller_rows.specs.declared.Size.{Size}
use Rattle.controller_rows.specs.declared.Home.{Home}
use Rattle.controller_rows.specs.Writes.{leading, input_of, layout_of}

-- "rows by output, counter, input, the last running fastest", "rows by output, counter and component" (SPEC 7.2, 11.1)

pub record Sheet (S : Separated) (y : Layout) (input : ℕ → ℕ) (E : List ℕ) : Type 0 where
  pub outputs : y.states ≡ S.output.states
  pub counters : y.counters ≡ controller_counters S
  pub inputs : (b : ℕ) → b < y.width → input b < S.input.states
  pub rows : Rows y (λ o c b. controller_row S o c (input b)) E

pub record ControllerFilled (S : Separated) (z : Size) (P : ℕ → ℕ → ℕ → Type 0) (l m : List ℕ) : Type 0 where
  pub long : length m ≡ length l
  pub fills : (E : List ℕ) → Sheet S (layout_of z) (input_of z) E → FilledIn (layout_of z) E (λ o c b. P o c (input_of z b)) l m

pub record Every (o c j : ℕ) : Type 0 where

pub record HasHome (S : Separated) (o d j : ℕ) : Type 0 where
  pub is_nontrivial : nontrivial S.input j ≡ true
  pub settled : settles S (region S) j o ≡ true
  pub is : home S j o ≡ d

pub record Away (S : Separated) (d o c j : ℕ) : Type 0 where
  pub has_home : HasHome S o d j
  pub apart : joined S.output d o ≡ false

pub record There (S : Separated) (d o c j : ℕ) : Type 0 where
  pub has_home : HasHome S o d j
  pub within : joined S.output d o ≡ true

pub record At (S : Separated) (d o c j : ℕ) : Type 0 where
  pub has_home : HasHome S o d j

pub record Below (S : Separated) (k o c j : ℕ) : Type 0 where
  pub has_home : HasHome S o (home S j o) j
  pub below : home S j o < k

pub record Sized (g : Game) (z : Size) : Type 0 where
  pub accepted : acceptance g ≡ accepted
  pub inputs : z.inputs ≡ g.input.states
  pub outputs : z.outputs ≡ g.output.states
  pub counters : z.counters ≡ controller_counters (separated_of g)
  pub all : (c : ℕ) → has z.all.0 c ≡ ltb c z.counters
  pub starts : z.inputs ≤ z.base
  pub front : z.base ≤ most_starts
  pub columns : z.width ≡ count z.inputs (leading z)

pub record Given (g : Game) (z : Size) (s : List ℕ) (inner : ℕ) : Type 0 where
  pub sized : Sized g z
  pub ready : Ready g s inner

pub record HomeOf (S : Separated) (w : Home) : Type 0 where
  pub below : w.state.0 < S.output.states
  pub is_nontrivial : nontrivial S.output w.state.0 ≡ true
  pub component : bits_of w.component.0 ≡ pack S.output.states (joined S.output w.state.0)
  pub has_home : (j : ℕ) → j < S.input.states → has (bits_of w.inputs.0) j ≡ true → HasHome S w.state.0 w.state.0 j
  pub complete : (j : ℕ) → j < S.input.states → HasHome S w.state.0 w.state.0 j → has (bits_of w.inputs.0) j ≡ true

pub record HomeGoals (S : Separated) (w : Home) (q : ℕ) : Type 0 where
  pub is : q ≡ pack (length (guarantees S)) (λ k. meets_at S.output w.state.0 (goal_at (guarantees S) k))
