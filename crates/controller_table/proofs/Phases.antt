-- What the phases of the filling give.
--
--   same_moves                     : rows of moves
--   seek_goals                     : the counters of a tour
--   met_goals                      : the guarantees that meet a component
use Prim.Native.Nat.{ℕ, ◌<◌}
use native.Mathlib.Nat.{max-eq_right}
use mathlib.Core.Path.{◌≡◌, refl, ◌∙◌}
use mathlib.Core.Bool.{true}
use native.Mathlib.Omega.{arith}
use lib.ListN.{length, get_or}
use Rattle.bits.specs.Member.{has, pack}
use Rattle.bits.proofs.Compare.{member_nonzero}
use Rattle.sets.specs.Words.{bits_of, sets_in}
use Rattle.game.specs.declared.Game.{Game}
use Rattle.play.specs.Play.{graph_of, separated_of}
use Rattle.theory.specs.Choice.{guarantees}
use Rattle.theory.specs.Entries.{controller_counters}
use Rattle.demands.proofs.Sizes.{guarantees_few}
use Rattle.table_goals.specs.Goal.{Goals as Counted}
use Rattle.table_goals.specs.Ranges.{met_in}
use Rattle.table_goals.proofs.Tours.{met_pack, goal_below, goals_from}
use Rattle.controller_rows.specs.declared.Size.{Size}
use Rattle.controller_rows.specs.declared.Home.{Home}
use Rattle.controller_table.specs.Filled.{Sized, HomeOf, HomeGoals}
use Rattle.controller_table.proofs.Loops.{comp_in}
use Rattle.controller_table.proofs.Setting.{fits_of, few_outputs}

-- the rows of the game's moves are the graph's moves
pub same_moves : (g : Game) (s t : ℕ) → s < (separated_of g).output.states → t < (separated_of g).output.states
    → (separated_of g).output.moves s t ≡ has (get_or (sets_in g.output.moves) s 0) t
unfolding separated_of graph_of
same_moves g s t a b = refl

module _ (g : Game) (z : Size) (Z : Sized g z) (w : Home) (H : HomeOf (separated_of g) w) where
  -- ---- the counters of a tour

  module _ (q : ℕ) (Q : HomeGoals (separated_of g) w q) where
    some_goal : (a : ℕ) → has q a ≡ true → a < length (guarantees (separated_of g))
    some_goal a h = goal_below (separated_of g).output w.state.0 (guarantees (separated_of g)) q Q.is a h

    -- where there is a goal, the counters are the guarantees
    counters_are : (a : ℕ) → a < length (guarantees (separated_of g)) → z.counters ≡ length (guarantees (separated_of g))
    unfolding controller_counters
    counters_are a b = Z.counters ∙ max-eq_right (omega arith)

    module _ (a : ℕ) (i : has q a ≡ true) where
      pub seek_goals : Counted q z.counters 0
      seek_goals =
          rw (counters_are a (some_goal a i))
          (goals_from (separated_of g).output w.state.0 (guarantees (separated_of g)) q Q.is 0 (member_nonzero q a i)
          (omega (arith, guarantees_few g (fits_of g z Z))) (omega (arith, some_goal a i)))

-- ---- the guarantees that meet a component

pub met_goals : (g : Game) (z : Size) → Sized g z → (w : Home) → HomeOf (separated_of g) w → (q : ℕ)
    → q ≡ pack (length (guarantees (separated_of g))) (met_in (guarantees (separated_of g)) (bits_of w.component.0)) → HomeGoals (separated_of g) w q
met_goals g z Z w H q e = record {
  is =
      e ∙ met_pack (separated_of g).output w.state.0 (bits_of w.component.0) (few_outputs g z Z) (comp_in (separated_of g) w H)
      (guarantees (separated_of g))
      (length (guarantees (separated_of g)));
}
