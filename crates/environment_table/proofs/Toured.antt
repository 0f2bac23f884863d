-- Tours in sets.
--
--   tour_row                : a row that is left to a tour is the tour's
--   goals_pack, aims_goals  : the goals of a tour, and its counters
--   aims_of                 : there are some where a set meets the component
use Prim.Native.Nat.{ℕ, ◌<◌, ◌≤◌}
use native.Mathlib.Nat.{max-eq_right}
use mathlib.Core.Path.{◌≡◌, sym, ◌∙◌, ap, subst}
use mathlib.Core.Bool.{Bool, true, not}
use mathlib.Core.Logic.{◌≢◌}
use native.Mathlib.Omega.{arith}
use lib.ListN.{length}
use Rattle.bits.proofs.Membership.{pack_below}
use Rattle.finite.proofs.Truth.{and_left, and_right, not_true}
use Rattle.bits.specs.Member.{has, pack}
use Rattle.bits.proofs.Compare.{nonzero_member}
use Rattle.sets.specs.Words.{capacity}
use Rattle.graphs.specs.Graph.{stuck}
use Rattle.graphs.specs.Component.{joined, meets_at}
use Rattle.graphs.proofs.Component.{joined_self}
use Rattle.game.specs.declared.Game.{Game}
use Rattle.game.specs.Acceptance.{accepted, acceptance}
use Rattle.game.proofs.Laws.{accepted_fits}
use Rattle.play.specs.Play.{graph_of, separated_of}
use Rattle.theory.specs.Region.{region}
use Rattle.theory.specs.Tour.{goal_at, tour}
use Rattle.theory.specs.Choice.{assumptions, escapes, environment_row}
use Rattle.theory.specs.Entries.{environment_counters}
use Rattle.theory.proofs.Delay.{region_same}
use Rattle.theory.proofs.EnvironmentRow.{escapes_same, row_lost, pushing_nontrivial, pressing_tours}
use Rattle.demands.proofs.Sizes.{assumptions_few}
use Rattle.table_goals.specs.Goal.{Goals}
use Rattle.table_goals.specs.Ranges.{met_in}
use Rattle.table_goals.proofs.Tours.{met_pack, goal_below, goals_from}
use Rattle.environment_table.specs.Table.{Roomy}
use Rattle.environment_table.specs.Pressing.{Whole, pressed_at, touring_at}
use Rattle.environment_table.specs.Touring.{Count, Left, Aims}
use Rattle.environment_table.proofs.Outward.{whole_has, whole_number, whole_core, whole_in}

module _ (g : Game) (c k : ℕ) (W : Whole g c k) where
  -- the sets that meet it
  pub goals_pack : (q M : ℕ) → g.input.states ≤ capacity → M ≡ length (assumptions (separated_of g)) → q ≡ pack M (met_in (assumptions (separated_of g)) c)
      → q ≡ pack (length (assumptions (separated_of g))) (λ a. meets_at (graph_of g.input) k (goal_at (assumptions (separated_of g)) a))
  unfolding graph_of
  goals_pack q M few m e =
      e ∙ met_pack (graph_of g.input) k c few (λ t. ap (λ (p : ℕ → Bool). p t) (whole_has g c k W)) (assumptions (separated_of g)) M
      ∙ ap (λ (n : ℕ). pack n (λ a. meets_at (graph_of g.input) k (goal_at (assumptions (separated_of g)) a))) m

  -- a row that is left to a tour
  pub tour_row : (a h o : ℕ) → has c a ≡ true → o < g.output.states → touring_at g k o ≡ true
      → environment_row (separated_of g) a h o ≡ tour (graph_of g.input) k (assumptions (separated_of g)) a h
  unfolding touring_at pressed_at separated_of graph_of
  tour_row a h o e b t =
      row_lost (separated_of g) a h o
      (sym (region_same (separated_of g) k a o o j own)
      ∙ not_true (region (separated_of g) k o) (and_left (not (region (separated_of g) k o)) (not (stuck (separated_of g).output o))
      (and_left (pressed_at g k o) (not (escapes (separated_of g) k o)) t)))
      (not_true (stuck (separated_of g).output o) (and_right (not (region (separated_of g) k o)) (not (stuck (separated_of g).output o))
      (and_left (pressed_at g k o) (not (escapes (separated_of g) k o)) t)))
      ∙ pushing_nontrivial (separated_of g) a h o (whole_core g c k W a j)
      ∙ pressing_tours (separated_of g) a h o
      (sym (escapes_same (separated_of g) k a o o j own)
      ∙ not_true (escapes (separated_of g) k o) (and_right (pressed_at g k o) (not (escapes (separated_of g) k o)) t))
      ∙ ap (λ (n : ℕ). tour (graph_of g.input) n (assumptions (separated_of g)) a h) (whole_number g c k W a j)
    where
      j : joined (graph_of g.input) k a ≡ true
      j = whole_in g c k W a e

      own : joined (graph_of g.output) o o ≡ true
      own = joined_self (graph_of g.output) o b

module _ (g : Game) (c q over M : ℕ) (A : Aims g c q over M) where
  aims_word : q ≡ pack (length (assumptions (separated_of g))) (λ a. meets_at (graph_of g.input) A.left.first (goal_at (assumptions (separated_of g)) a))
  aims_word = goals_pack g c A.left.first A.left.whole q M A.count.inputs A.count.all A.goals

  pub aims_goals : (h : ℕ) → h < M → Goals q M h
  aims_goals h b =
      subst (λ (m : ℕ). Goals q m h) (sym A.count.all)
      (goals_from (graph_of g.input) A.left.first (assumptions (separated_of g)) q aims_word h A.some (omega (arith, A.count.all, A.count.few))
      (omega (arith, A.count.all)))

  goal_in : (a : ℕ) → has q a ≡ true → a < M
  goal_in a e = omega (arith, A.count.all, goal_below (graph_of g.input) A.left.first (assumptions (separated_of g)) q aims_word a e)

  pub some_goal : 0 < M
  some_goal = let v = nonzero_member q A.some in omega (arith, goal_in v.0 v.1)

-- the assumptions, counted

count_of : (g : Game) (n : ℕ) → acceptance g ≡ accepted → n ≡ length (assumptions (separated_of g)) → Count g n
count_of g n a e = record {
  accepted = a;
  all = e;
  few = omega (arith, assumptions_few g (accepted_fits g a));
  inputs = (accepted_fits g a).input.most;
}

pub aims_of : (g : Game) (M n c over q : ℕ) → Roomy g M n → Left g c over
    → q ≡ pack (length (assumptions (separated_of g))) (met_in (assumptions (separated_of g)) c)
    → q ≢ 0 → Aims g c q over M
unfolding environment_counters
aims_of g M n c over q R L e ne = record {
  left = L;
  count = count_of g M R.accepted same;
  goals = e ∙ ap (λ (k : ℕ). pack k (met_in (assumptions (separated_of g)) c)) (sym same);
  some = ne;
}
  where
    some : 0 < length (assumptions (separated_of g))
    some =
        let v = nonzero_member q ne in
        omega (
          arith,
          pack_below (length (assumptions (separated_of g))) (met_in (assumptions (separated_of g)) c) v.0
              (ap (λ (y : ℕ). has y v.0) (sym e) ∙ v.1),
        )

    same : M ≡ length (assumptions (separated_of g))
    same = R.counters ∙ max-eq_right (omega (arith, some))
