-- The rows of a component's states that tour a list of sets.
--
--   Course z moves c over q            == a graph with these moves, one of its components with the states c, a list of sets of which those of q meet it, and a
--                                         table of rows in the layout z, whose rows of c and the columns of over are the tour's
--   Moving moves n c                   == the states of c are below n and have a move inside c
--   Stayed moves z c over l m          == from l to m the rows of c and over were written, of any course with no goal
--   Aimed moves z c over q x a l m     == from l to m those of the counters whose goal is a were written, of any course whose set number a is x
--   GoalWithin z c over q i e s h b        == the row is one of c and over, and the goal of counter h is at least i and below e
--   RangeWritten moves z c over q t j l m == from l to m those were written whose goal is among the first j sets of t, of any course with these sets
use Rattle.std.specs.Prelude.{ℕ, ◌+◌, ◌≤◌, ◌<◌, max, ◌≡◌, Bool, true, List, ◌≢◌, length, get_or}
use Rattle.std.specs.Int.Bits.{bit_and}
use Rattle.bits.specs.Member.{has, pack, within}
use Rattle.sets.specs.Words.{capacity}
use Rattle.graphs.specs.Graph.{Graph}
use Rattle.graphs.specs.Component.{joined, nontrivial, meets_at}
use Rattle.arena.specs.Table.{Answer}
use Rattle.theory.specs.Tour.{goal_at, tour}
use Rattle.table_goals.specs.declared.GoalRange.{GoalRange}
use Rattle.table_goals.specs.Goal.{first_from}
use Rattle.table_goals.specs.Ranges.{range_set}
use Rattle.table_layout.specs.declared.Layout.{Layout}
use Rattle.table_layout.specs.Rows.{Rows, Filled}

pub record Course (z : Layout) (moves : List ℕ) (c over q : ℕ) : Type 0 where
  pub graph : Graph
  pub number : ℕ
  pub sets : List (ℕ → Bool)
  pub row : ℕ → ℕ → ℕ → Answer
  pub entries : List ℕ
  pub table : Rows z row entries
  pub states : z.states ≡ graph.states
  pub few : graph.states ≤ capacity
  pub counters : z.counters ≡ max 1 (length sets)
  pub same : (s t : ℕ) → s < graph.states → t < graph.states → graph.moves s t ≡ has (get_or moves s 0) t
  pub component : c ≡ pack graph.states (joined graph number)
  pub is_nontrivial : nontrivial graph number ≡ true
  pub goals : q ≡ pack (length sets) (λ k. meets_at graph number (goal_at sets k))
  pub tours : (s h b : ℕ) → s < z.states → has c s ≡ true → h < z.counters → b < z.width → has over b ≡ true → row s h b ≡ tour graph number sets s h

pub record Moving (moves : List ℕ) (n c : ℕ) : Type 0 where
  pub members : within c n ≡ true
  pub move : (s : ℕ) → has c s ≡ true → bit_and (get_or moves s 0) c ≢ 0

-- "With no aim: the lowest move inside home; g stays." "A move to the present state now goes first, then the lowest." (M-101) (SPEC 5.7)
pub record Stayed (moves : List ℕ) (z : Layout) (c over : ℕ) (l m : List ℕ) : Type 0 where
  pub long : length m ≡ length l
  pub fills : (p : Course z moves c over 0) → Filled z p.entries (λ s h b. (has c s ≡ true) × (has over b ≡ true)) l m

-- "Take the move inside home with the shortest way to the aim inside home" (SPEC 5.6)
pub record Aimed (moves : List ℕ) (z : Layout) (c over q x a : ℕ) (l m : List ℕ) : Type 0 where
  pub long : length m ≡ length l
  pub fills : (p : Course z moves c over q) → has x ≡ goal_at p.sets a
      → Filled z p.entries (λ s h b. (has c s ≡ true) × (first_from z.counters q h ≡ a) × (has over b ≡ true)) l m

pub record GoalWithin (z : Layout) (c over q i e s h b : ℕ) : Type 0 where
  pub state : has c s ≡ true
  pub column : has over b ≡ true
  pub from : i ≤ first_from z.counters q h
  pub below : first_from z.counters q h < e

pub record RangeWritten (moves : List ℕ) (z : Layout) (c over q : ℕ) (t : GoalRange) (j : ℕ) (l m : List ℕ) : Type 0 where
  pub long : length m ≡ length l
  pub fills : (p : Course z moves c over q) → ((i : ℕ) → i < t.count → has (range_set t i) ≡ goal_at p.sets (t.from + i))
      → Filled z p.entries (GoalWithin z c over q t.from (t.from + j)) l m
