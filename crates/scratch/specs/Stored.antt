-- What the solver keeps in scratch, of n = inputs and m = outputs: n sets of the inputs' closure, n rows of the winning region, m sets of the
-- outputs' closure. The region's row of an input in a nontrivial component holds its homes: an output is won where it reaches one of them.
-- Here s is scratch, and l the sets in it.
--
--   in_reach_at l i                == the inputs that input i reaches
--   row_at l n j                  == the region's row of input j
--   out_reach_at l n o             == the outputs that output o reaches
--   out_area l n                  == the sets of the outputs' closure
--   reaching_at l n x o           == output o reaches a state of x
--   stored_at S j o               == what stands at place o of the region's row of j
--   stored_row S j                == the region's row of j
--   won_at l n c j o              == (j, o) is won, told from l, c being the inputs in nontrivial components
--   some_won_at l n m c j y        == some output of y below m is won with j
--   WonKept l n m k              == k has the outputs that reach its homes
--   Reached l n m y z            == the outputs of y are below m, and z is what they reach
--   RowPut n j y s t             == scratch t is s with the region's row y for j, of n inputs
--   NontrivialOf g x             == x are the states in nontrivial components of both graphs
--   Laid g s                     == the closures stand in scratch
--   Ready g s c                  == and all rows of the region; c are the inputs in nontrivial components
use Rattle.std.specs.Prelude.{ℕ, ◌+◌, ◌≤◌, ◌<◌, ◌≡◌, Bool, true, false, ◌&&◌, List, ◌≢◌, length, get_or, drop}
use Rattle.finite.specs.Bounded.{any}
use Rattle.bits.specs.Member.{has, pack, sets_meet}
use Rattle.sets.specs.Words.{capacity, bits_of, sets_in, set_count}
use Rattle.graphs.specs.Closure.{reaches}
use Rattle.graphs.specs.Component.{nontrivial}
use Rattle.arena.specs.Arena.{Separated}
use Rattle.game.specs.declared.Game.{Game}
use Rattle.game.specs.Fits.{Fits}
use Rattle.play.specs.Play.{graph_of, separated_of}
use Rattle.theory.specs.Region.{home_for, region}
use Rattle.scratch.specs.declared.Nontrivial.{Nontrivial}
use Rattle.scratch.specs.declared.WonRow.{WonRow}
use Rattle.scratch.specs.Scratch.{scratch_sets}

unfoldable pub in_reach_at : List ℕ → ℕ → ℕ
in_reach_at l i = get_or l i 0

unfoldable pub row_at : List ℕ → ℕ → ℕ → ℕ
row_at l n j = get_or l (n + j) 0

unfoldable pub out_reach_at : List ℕ → ℕ → ℕ → ℕ
out_reach_at l n o = get_or l (n + n + o) 0

unfoldable pub out_area : List ℕ → ℕ → List ℕ
out_area l n = drop (n + n) l

unfoldable pub reaching_at : List ℕ → ℕ → ℕ → ℕ → Bool
reaching_at l n x o = sets_meet capacity x (out_reach_at l n o)

unfoldable pub stored_at : Separated → ℕ → ℕ → Bool
stored_at S j o = elim (nontrivial S.input j) [ true ↦ home_for S (region S) j o | false ↦ region S j o ]

unfoldable pub stored_row : Separated → ℕ → ℕ
stored_row S j = pack S.output.states (stored_at S j)

unfoldable pub won_at : List ℕ → ℕ → ℕ → ℕ → ℕ → Bool
won_at l n c j o = elim (has c j) [ true ↦ sets_meet capacity (row_at l n j) (out_reach_at l n o) | false ↦ has (row_at l n j) o ]

unfoldable pub some_won_at : List ℕ → ℕ → ℕ → ℕ → ℕ → ℕ → Bool
some_won_at l n m c j y = any m (λ p. has y p && won_at l n c j p)

pub record WonKept (l : List ℕ) (n m : ℕ) (k : WonRow) : Type 0 where
  pub reaching : bits_of k.reaching.0 ≡ pack m (reaching_at l n (bits_of k.homes.0))

pub record Reached (l : List ℕ) (n m y z : ℕ) : Type 0 where
  pub below : (p : ℕ) → has y p ≡ true → p < m
  pub reached : (e : ℕ) → has z e ≡ true → (p : ℕ) × (has y p ≡ true) × (has (out_reach_at l n p) e ≡ true)
  pub reaches : (p e : ℕ) → has y p ≡ true → has (out_reach_at l n p) e ≡ true → has z e ≡ true

pub record RowPut (n j y : ℕ) (s t : List ℕ) : Type 0 where
  pub long : length t ≡ length s
  pub inputs : (i : ℕ) → i < n → in_reach_at (sets_in t) i ≡ in_reach_at (sets_in s) i
  pub here : row_at (sets_in t) n j ≡ y
  pub others : (k : ℕ) → k ≢ j → row_at (sets_in t) n k ≡ row_at (sets_in s) n k
  pub outputs : (o : ℕ) → out_reach_at (sets_in t) n o ≡ out_reach_at (sets_in s) n o
  pub rest : (m : ℕ) → drop (scratch_sets n m) (sets_in t) ≡ drop (scratch_sets n m) (sets_in s)

pub record NontrivialOf (g : Game) (x : Nontrivial) : Type 0 where
  pub inputs : bits_of x.inputs.0 ≡ pack g.input.states (nontrivial (graph_of g.input))
  pub outputs : bits_of x.outputs.0 ≡ pack g.output.states (nontrivial (graph_of g.output))

pub record Laid (g : Game) (s : List ℕ) : Type 0 where
  pub long : scratch_sets g.input.states g.output.states ≤ set_count s
  pub inputs : (i : ℕ) → i < g.input.states → in_reach_at (sets_in s) i ≡ pack g.input.states (reaches (graph_of g.input) i)
  pub outputs : (o : ℕ) → o < g.output.states
      → out_reach_at (sets_in s) g.input.states o ≡ pack g.output.states (reaches (graph_of g.output) o)

pub record Ready (g : Game) (s : List ℕ) (c : ℕ) : Type 0 where
  pub fits : Fits g
  pub laid : Laid g s
  pub rows : (j : ℕ) → j < g.input.states → row_at (sets_in s) g.input.states j ≡ stored_row (separated_of g) j
  pub inner : c ≡ pack g.input.states (nontrivial (graph_of g.input))
