-- The environment's tours as courses.
--
--   tour_course                : the rows that are left to a tour
--   aims_course, aims_counted, aims_members, aims_none, aims_further, aims_filled : requirement after requirement
--   rests_moving, rests_filled : with no goal
use Prim.Native.Nat.{ℕ, ◌+◌, ◌<◌}
use mathlib.Core.Path.{◌≡◌, refl, sym, ◌∙◌, ap}
use mathlib.Core.Bool.{true}
use mathlib.Core.List.{List}
use native.Mathlib.Omega.{arith}
use lib.ListN.{length}
use Rattle.bits.proofs.Membership.{pack_holds}
use Rattle.bits.specs.Member.{has, pack, within}
use Rattle.sets.specs.Words.{sets_in}
use Rattle.game.specs.declared.Game.{Game}
use Rattle.play.specs.Play.{graph_of, separated_of}
use Rattle.theory.specs.Tour.{goal_at}
use Rattle.theory.specs.Choice.{assumptions, environment_row}
use Rattle.theory.specs.Entries.{environment_counters}
use Rattle.table_goals.specs.declared.GoalRange.{GoalRange}
use Rattle.table_goals.specs.Goal.{Goals}
use Rattle.table_goals.specs.Ranges.{met_in, range_set}
use Rattle.table_layout.specs.declared.Layout.{Layout}
use Rattle.table_layout.specs.Rows.{Filled as FilledIn}
use Rattle.table_tours.specs.Course.{Course, Moving, Stayed, GoalWithin, RangeWritten}
use Rattle.table_tours.proofs.Courses.{course_members, course_moving}
use Rattle.table_tours.proofs.Ranges.{goal_within_none, goal_within_further, goal_within_all}
use Rattle.environment_table.specs.Table.{entries_of, Roomy, EnvironmentLayout, EnvironmentFilled}
use Rattle.environment_table.specs.Pressing.{touring_at}
use Rattle.environment_table.specs.Touring.{Left, Aims}
use Rattle.environment_table.proofs.Laid.{laid_table, laid_filled}
use Rattle.environment_table.proofs.Toured.{goals_pack, tour_row, aims_goals, some_goal}

module _ (g : Game) (M n : ℕ) (z : Layout) (R : Roomy g M n) (Z : EnvironmentLayout g.input.states M g.output.states z) where
  tour_course : (c over q : ℕ) → Left g c over
      → q ≡ pack (length (assumptions (separated_of g))) (met_in (assumptions (separated_of g)) c) → Course z (sets_in g.input.moves) c over q
  unfolding graph_of environment_counters
  tour_course c over q L e = record {
    graph = graph_of g.input;
    number = L.first;
    sets = assumptions (separated_of g);
    row = environment_row (separated_of g);
    entries = entries_of g;
    table = laid_table g M n z R Z;
    states = Z.states;
    few = R.inputs;
    counters = Z.counters ∙ R.counters;
    same = λ s t a b. refl;
    component = L.whole.word;
    is_nontrivial = L.whole.is_nontrivial;
    goals = goals_pack g c L.first L.whole q (length (assumptions (separated_of g))) R.inputs refl e;
    tours = λ s h b ls i lh lb o.
        tour_row g c L.first L.whole s h b i (omega (arith, Z.width))
        (pack_holds g.output.states (touring_at g L.first) b (ap (λ (v : ℕ). has v b) (sym L.outputs) ∙ o));
  }

  module _ (c q over : ℕ) (A : Aims g c q over M) where
    aims_course : Course z (sets_in g.input.moves) c over q
    aims_course = tour_course c over q A.left (A.goals ∙ ap (λ (k : ℕ). pack k (met_in (assumptions (separated_of g)) c)) A.count.all)

    pub aims_counted : Goals q z.counters 0
    aims_counted = rw Z.counters (aims_goals g c q over M A 0 (some_goal g c q over M A))

    pub aims_members : within c z.states ≡ true
    aims_members = course_members z (sets_in g.input.moves) c over q aims_course

    -- all sets were passed
    pub aims_filled : {l m : List ℕ} (k : ℕ) → k ≡ length (assumptions (separated_of g)) → FilledIn z (entries_of g) (GoalWithin z c over q 0 k) l m
        → EnvironmentFilled g (λ a h b. (has c a ≡ true) × (has over b ≡ true)) l m
    unfolding aims_course tour_course
    aims_filled k e F =
        laid_filled g M n z R Z (goal_within_all z (sets_in g.input.moves) c over q aims_course aims_counted k (omega (arith, Z.counters, A.count.all)) F)

    pub aims_none : (l : List ℕ) → FilledIn z (entries_of g) (GoalWithin z c over q 0 0) l l
    unfolding aims_course tour_course
    aims_none l = goal_within_none z (sets_in g.input.moves) c over q aims_course l

    -- x are the rows that were read, here and below
    pub aims_further : {x : List ℕ} → x ≡ g.input.moves → (t : GoalRange) (k : ℕ) {l m r r' : List ℕ} → t.from ≡ k
        → ((i : ℕ) → i < t.count → has (range_set t i) ≡ goal_at (assumptions (separated_of g)) (t.from + i))
        → FilledIn z (entries_of g) (GoalWithin z c over q 0 k) l m → RangeWritten (sets_in x) z c over q t t.count m r → r' ≡ r
        → FilledIn z (entries_of g) (GoalWithin z c over q 0 (k + t.count)) l r'
    unfolding aims_course tour_course
    aims_further a t k e sets F D d = rw d (goal_within_further z (sets_in g.input.moves) c over q aims_course t k e sets F (rw a at D))

  -- with no goal
  module _ (c over q : ℕ) (L : Left g c over) (e : q ≡ pack (length (assumptions (separated_of g))) (met_in (assumptions (separated_of g)) c)) (none : q ≡ 0) where
    rests : Course z (sets_in g.input.moves) c over 0
    rests = tour_course c over 0 L (sym none ∙ e)

    pub rests_moving : {x : List ℕ} → x ≡ g.input.moves → Moving (sets_in x) z.states c
    rests_moving a = rw a (course_moving z (sets_in g.input.moves) c over 0 rests)

    pub rests_filled : {x : List ℕ} → x ≡ g.input.moves → {l m : List ℕ} → Stayed (sets_in x) z c over l m
        → EnvironmentFilled g (λ a h b. (has c a ≡ true) × (has over b ≡ true)) l m
    unfolding rests tour_course
    rests_filled a S = laid_filled g M n z R Z ((rw a at S).fills rests)
