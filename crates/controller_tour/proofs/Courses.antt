-- The controller's tours as courses.
--
--   Toured                       == the rows at a home, of every course past the guarantees, for goals up to a bound
--   home_course                  : the rows at a home, in a list with the rows of the table
--   home_counted, home_members, home_none, home_further, home_filled : requirement after requirement
--   rests_moving, rests_filled   : with no goal
use Prim.Native.Nat.{ℕ, ◌+◌, ◌*◌, ◌<◌}
use mathlib.Core.Path.{◌≡◌, refl, sym, ◌∙◌, ap}
use mathlib.Core.Bool.{Bool, true, ◌&&◌}
use mathlib.Core.List.{List}
use mathlib.Core.Logic.{◌≢◌}
use native.Mathlib.Omega.{arith}
use lib.Dec.{ltb}
use lib.ListN.{length}
use borrow.Author.Tests.{lt-ltb}
use Rattle.finite.specs.Tabulate.{tabulate}
use Rattle.finite.proofs.Truth.{clash, and_intro, and_right}
use Rattle.finite.proofs.Tabulate.{length_tabulate, get_d_tabulate}
use Rattle.bits.specs.Member.{has, within}
use Rattle.bits.proofs.Membership.{has_zero_lem, has_within}
use Rattle.bits.proofs.Compare.{nonzero_member}
use Rattle.sets.specs.Words.{bits_of, sets_in}
use Rattle.graphs.proofs.Component.{joined_to}
use Rattle.arena.specs.Table.{none}
use Rattle.game.specs.declared.Game.{Game}
use Rattle.play.specs.Play.{separated_of}
use Rattle.theory.specs.Tour.{goal_at}
use Rattle.theory.specs.Choice.{guarantees, controller_row}
use Rattle.theory.specs.Entries.{entry, controller_counters}
use Rattle.table_goals.specs.declared.GoalRange.{GoalRange}
use Rattle.table_goals.specs.Ranges.{range_set}
use Rattle.table_goals.specs.Goal.{Goals as Counted}
use Rattle.table_layout.specs.declared.Layout.{Layout}
use Rattle.table_layout.specs.Rows.{place, Filled as FilledIn}
use Rattle.table_layout.proofs.Places.{filled_part}
use Rattle.table_tours.specs.Course.{Course, Moving, Stayed, GoalWithin, RangeWritten}
use Rattle.table_tours.proofs.Courses.{course_counters, course_moving}
use Rattle.table_tours.proofs.Ranges.{goal_within_none, goal_within_further, goal_within_all}
use Rattle.controller_rows.specs.declared.Size.{Size}
use Rattle.controller_rows.specs.declared.Home.{Home}
use Rattle.controller_rows.specs.Writes.{input_of, layout_of}
use Rattle.controller_table.specs.Filled.{Sheet, ControllerFilled, There, Sized, HomeOf, HomeGoals}
use Rattle.controller_table.proofs.Cells.{place_room}
use Rattle.controller_table.proofs.Laid.{outputs_are, counters_are, width_is, laid_rows, laid_input, laid_filled}
use Rattle.controller_table.proofs.Entries.{at_home_lem}
use Rattle.controller_table.proofs.Loops.{comp_in, has_home_from, input_at}
use Rattle.controller_table.proofs.Setting.{sizes_of_lem, few_outputs}
use Rattle.controller_table.proofs.Phases.{same_moves, seek_goals}

-- of any course past the guarantees the rows were written whose goal is below k
pub record Toured (g : Game) (y : Layout) (c over q k : ℕ) (l m : List ℕ) : Type 0 where
  pub long : length m ≡ length l
  pub fills : (p : Course y (sets_in g.output.moves) c over q) → p.sets ≡ guarantees (separated_of g)
      → FilledIn y p.entries (GoalWithin y c over q 0 k) l m

module _ (g : Game) (y : Layout) (c over q : ℕ) where
  pub home_none : (l : List ℕ) → Toured g y c over q 0 l l
  home_none l = record { long = refl; fills = λ p e. goal_within_none y (sets_in g.output.moves) c over q p l }

  -- x are the rows that were read
  pub home_further : {x : List ℕ} → x ≡ g.output.moves → (t : GoalRange) (k : ℕ) {l m r r' : List ℕ} → t.from ≡ k
      → ((i : ℕ) → i < t.count → has (range_set t i) ≡ goal_at (guarantees (separated_of g)) (t.from + i))
      → Toured g y c over q k l m → RangeWritten (sets_in x) y c over q t t.count m r → r' ≡ r
      → Toured g y c over q (k + t.count) l r'
  home_further a t k e sets F S d = rw d (record {
    long = S.long ∙ F.long;
    fills = λ p f.
        goal_within_further y (sets_in g.output.moves) c over q p t k e
        (λ i b. sets i b ∙ ap (λ (x : List (ℕ → Bool)). goal_at x (t.from + i)) (sym f)) (F.fills p f) (rw a at S);
  })

module _ (g : Game) (z : Size) (y : Layout) (Z : Sized g z) (D : y ≡ layout_of z) where
  module _ (w : Home) (H : HomeOf (separated_of g) w) where
    pub home_members : within (bits_of w.component.0) y.states ≡ true
    home_members =
        has_within (bits_of w.component.0) y.states
        (λ t e. omega (arith, outputs_are g z y Z D, joined_to (separated_of g).output w.state.0 t (sym (comp_in (separated_of g) w H t) ∙ e)))

    -- a course with no column
    module _ (q : ℕ) (Q : HomeGoals (separated_of g) w q) where
      size : ℕ
      size = y.base + y.states * y.counters * y.width

      blank : Course y (sets_in g.output.moves) (bits_of w.component.0) 0 q
      unfolding controller_counters size
      blank = record {
        graph = (separated_of g).output;
        number = w.state.0;
        sets = guarantees (separated_of g);
        row = λ o c b. none;
        entries = tabulate size (λ k. entry none);
        table = record {
          long = length_tabulate (λ k. entry none) size;
          row = λ o c b lo lc lb. get_d_tabulate (λ k. entry none) size (place y o c b) 0 (place_room y o c b lo lc lb);
        };
        states = outputs_are g z y Z D;
        few = few_outputs g z Z;
        counters = counters_are g z y Z D;
        same = same_moves g;
        component = H.component;
        is_nontrivial = H.is_nontrivial;
        goals = Q.is;
        tours = λ o c b lo i lc lb k. clash k (has_zero_lem b);
      }

      pub rests_moving : {x : List ℕ} → x ≡ g.output.moves → Moving (sets_in x) y.states (bits_of w.component.0)
      rests_moving a = rw a (course_moving y (sets_in g.output.moves) (bits_of w.component.0) 0 q blank)

      pub home_counted : q ≢ 0 → Counted q y.counters 0
      unfolding layout_of
      home_counted ne = let v = nonzero_member q ne in rw D (seek_goals g z Z w H q Q v.0 v.1)

    -- the columns of the inputs whose home it is
    module _ (over : ℕ) (O : (b : ℕ) → has over b ≡ (ltb b z.width && has (bits_of w.inputs.0) (input_of z b))) where
      in_column : (b : ℕ) → has over b ≡ true → has (bits_of w.inputs.0) (input_of z b) ≡ true
      in_column b h = and_right (ltb b z.width) (has (bits_of w.inputs.0) (input_of z b)) (sym (O b) ∙ h)

      of_column : (b : ℕ) → b < y.width → has (bits_of w.inputs.0) (input_of z b) ≡ true → has over b ≡ true
      of_column b l h = O b ∙ and_intro (lt-ltb b z.width (omega (arith, width_is g z y Z D))) h

      module _ (E : List ℕ) (T : Sheet (separated_of g) (layout_of z) (input_of z) E) where
        home_course : (q : ℕ) → HomeGoals (separated_of g) w q → Course y (sets_in g.output.moves) (bits_of w.component.0) over q
        unfolding controller_counters
        home_course q Q = record {
          graph = (separated_of g).output;
          number = w.state.0;
          sets = guarantees (separated_of g);
          row = λ o c b. controller_row (separated_of g) o c (input_of z b);
          entries = E;
          table = laid_rows g z y Z D E T;
          states = outputs_are g z y Z D;
          few = few_outputs g z Z;
          counters = counters_are g z y Z D;
          same = same_moves g;
          component = H.component;
          is_nontrivial = H.is_nontrivial;
          goals = Q.is;
          tours = λ o c b lo i lc lb k.
              let h = sym (comp_in (separated_of g) w H o) ∙ i in
              let a = laid_input g z y Z D E T b lb in
              let r = has_home_from (separated_of g) z (sizes_of_lem g z Z) w H (few_outputs g z Z) o (input_of z b) a h (in_column b k) in
              at_home_lem (separated_of g) o w.state.0 (input_of z b) r a (few_outputs g z Z) h c;
        }

        there : {l m : List ℕ} → FilledIn y E (λ o c b. (has (bits_of w.component.0) o ≡ true) × (has over b ≡ true)) l m
            → FilledIn (layout_of z) E (λ o c b. There (separated_of g) w.state.0 o c (input_of z b)) l m
        there F =
            laid_filled g z y Z D E
            (filled_part y (λ o c b. controller_row (separated_of g) o c (input_of z b)) E (laid_rows g z y Z D E T) F
            (λ o c b lo lc lb p.
            let a = laid_input g z y Z D E T b lb in (
              comp_in (separated_of g) w H o ∙ p.within,
              of_column b lb (input_at (separated_of g) z (sizes_of_lem g z Z) w H (few_outputs g z Z) o (input_of z b) a p.within p.has_home),
            )))

      module _ (q : ℕ) (Q : HomeGoals (separated_of g) w q) where
        -- all sets were passed
        pub home_filled : q ≢ 0 → {l m : List ℕ} (k : ℕ) → k ≡ length (guarantees (separated_of g))
            → Toured g y (bits_of w.component.0) over q k l m → ControllerFilled (separated_of g) z (There (separated_of g) w.state.0) l m
        unfolding home_course
        home_filled ne k e F = record {
          long = F.long;
          fills = λ E T.
              let p = home_course E T q Q in
              there E T
              (goal_within_all y (sets_in g.output.moves) (bits_of w.component.0) over q p (home_counted q Q ne) k
              (omega (arith, e, course_counters y (sets_in g.output.moves) (bits_of w.component.0) over q p ne)) (F.fills p refl));
        }

        -- with no goal
        pub rests_filled : {x : List ℕ} → x ≡ g.output.moves → q ≡ 0 → {l m : List ℕ} → Stayed (sets_in x) y (bits_of w.component.0) over l m
            → ControllerFilled (separated_of g) z (There (separated_of g) w.state.0) l m
        unfolding home_course
        rests_filled a e S = record {
          long = S.long;
          fills = λ E T. there E T ((rw a at S).fills (home_course E T 0 (record { is = sym e ∙ Q.is })));
        }
