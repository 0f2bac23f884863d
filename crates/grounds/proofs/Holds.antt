-- The ground of a position holds of it.
--
--   moving_input                          : an input in a nontrivial component is not stuck
--   holds_input_stuck .. holds_pushed_on    : each ground, from the tests that lead to it
--   ground_holds                          : whichever it is
use Prim.Native.Nat.{ℕ, ◌<◌}
use mathlib.Core.Path.{◌≡◌, sym, ◌∙◌, subst⁻¹}
use mathlib.Core.Bool.{true, false}
use mathlib.Core.Logic.{inl, inr}
use lib.ListN.{length}
use Rattle.theory.proofs.Demands.{region_won}
use Rattle.finite.specs.Bounded.{any, least}
use Rattle.finite.proofs.Truth.{decide, clash}
use Rattle.finite.proofs.Bounded.{least_below, least_found, least_member, least_before}
use Rattle.graphs.specs.Graph.{stuck}
use Rattle.graphs.specs.Component.{nontrivial}
use Rattle.graphs.proofs.Graph.{edge_to, stuck_none, stuck_not}
use Rattle.graphs.proofs.Closure.{reaches_path, reaches_to}
use Rattle.graphs.proofs.Component.{nontrivial_move}
use Rattle.arena.specs.Arena.{Separated}
use Rattle.theory.specs.Region.{settles, region}
use Rattle.theory.specs.Choice.{home}
use Rattle.theory.proofs.Region.{
  answers_elim,
  answers_false,
  replies_false,
  safe_elim,
  home_for_nontrivial,
  home_for_accepting,
  home_for_safe,
  region_settles,
  region_replies,
}
use Rattle.theory.proofs.Delay.{reply}
use Rattle.theory.proofs.ControllerRow.{home_reached, home_home_for}
use Rattle.grounds.specs.Ground.{nth_requirement, unreplied, lost_exit, owed, missed, first_owed, first_missed, ground}
use Rattle.grounds.specs.Component.{Leaves}
use Rattle.grounds.specs.Holds.{
  InputStuck,
  ByReplies,
  AtHome,
  OutputStuck,
  Unanswered,
  ByWayOut,
  Unserved,
  PushedOn,
  Holds,
}
use Rattle.grounds.proofs.Component.{told_joined, nontrivial_told, trivial_told, meets_told, told_meets, leaves_told, told_leaves, entered_below}
use Rattle.grounds.proofs.Tests.{
  lost_at_lem,
  unreplied_intro,
  unreplied_move,
  unreplied_none,
  lost_exit_leaves,
  lost_exit_lost,
  due_from,
  due_test,
  served_at_lem,
  served_fails,
  owed_due,
  owed_served,
  missed_intro,
  missed_elim,
  met,
}
use Rattle.grounds.proofs.Branches.{
  is_input_stuck,
  is_by_replies,
  is_at_home,
  is_output_stuck,
  is_unanswered,
  is_by_way_out,
  is_unserved,
  is_pushed_on,
}
use Rattle.grounds.proofs.Homes.{home_number, accepting_at, owed_some}

module _ (S : Separated) (i o : ℕ) (a : i < S.input.states) (b : o < S.output.states) where
  -- a component with a move inside it is not stuck
  pub moving_input : nontrivial S.input i ≡ true → stuck S.input i ≡ false
  moving_input n = let v = nontrivial_move S.input i n in stuck_not S.input i v.0 v.1

  module _ (w : region S i o ≡ true) where
    holds_input_stuck : stuck S.input i ≡ true → InputStuck S i o
    holds_input_stuck t = record { won = region_won S i o w; stuck = λ j. stuck_none S.input i j t }

    holds_by_replies : nontrivial S.input i ≡ false → ByReplies S i o
    holds_by_replies n = record {
      won = region_won S i o w;
      trivial = trivial_told S.input i a n;
      replies = λ j e.
          let v = answers_elim S (region S) j o (reply S i o j w e) in
          record { output = v.0; move = v.1; won = region_won S j v.0 v.2 };
    }

    holds_at_home : nontrivial S.input i ≡ true → AtHome S i o (home S i o)
    holds_at_home n = record {
      won = region_won S i o w;
      staying = nontrivial_told S.input i a n;
      number = λ e t. home_number S i o e settled (told_joined S.output d e below t);
      lasting = nontrivial_told S.output d below (home_for_nontrivial S (region S) i d (home_home_for S i o settled));
      reached = reaches_path S.output o d (home_reached S i o settled);
      serves = λ k m u c.
          meets_told S.output d _
          (served_at_lem S d k m
          (accepting_at S i d k (home_for_accepting S (region S) i d (home_home_for S i o settled)) u.number (due_test S i k a u)) c);
      safe = λ j e l t.
          region_won S j e
          (safe_elim S (region S) i d j e (home_for_safe S (region S) i d (home_home_for S i o settled)) (told_leaves S.input i j a l)
          (told_joined S.output d e below t));
    }
      where
        d : ℕ
        d = home S i o

        settled : settles S (region S) i o ≡ true
        settled = sym (region_settles S i o a b n) ∙ w

        below : home S i o < S.output.states
        below = reaches_to S.output o (home S i o) (home_reached S i o settled)

  module _ (w : region S i o ≡ false) where
    holds_output_stuck : stuck S.output o ≡ true → OutputStuck S i o
    holds_output_stuck t = record { lost = lost_at_lem S i o a b w; stuck = λ p. stuck_none S.output o p t }

    holds_unanswered : nontrivial S.input i ≡ false → Unanswered S i o (least S.input.states (unreplied S i o))
    holds_unanswered n = record {
      lost = lost_at_lem S i o a b w;
      trivial = trivial_told S.input i a n;
      move = unreplied_move S i o j found;
      unreplied = λ p e.
          lost_at_lem S j p (edge_to S.input i j (unreplied_move S i o j found)) (edge_to S.output o p e)
          (answers_false S (region S) j o p (unreplied_none S i o j found) e);
    }
      where
        j : ℕ
        j = least S.input.states (unreplied S i o)

        found : unreplied S i o (least S.input.states (unreplied S i o)) ≡ true
        found =
            let v = replies_false S (region S) i o (sym (region_replies S i o a b n) ∙ w) in
            least_member S.input.states (unreplied S i o)
            (least_below S.input.states (unreplied S i o) v.0 (edge_to S.input i v.0 v.1) (unreplied_intro S i o v.0 v.1 v.2))

    holds_by_way_out : any S.input.states (lost_exit S i o) ≡ true → ByWayOut S i o (least S.input.states (lost_exit S i o))
    holds_by_way_out x = record {
      lost = lost_at_lem S i o a b w;
      leaves = out;
      entered = lost_at_lem S j o (entered_below S.input i j out) b (lost_exit_lost S i o j found);
    }
      where
        j : ℕ
        j = least S.input.states (lost_exit S i o)

        found : lost_exit S i o (least S.input.states (lost_exit S i o)) ≡ true
        found = least_member S.input.states (lost_exit S i o) (least_found S.input.states (lost_exit S i o) x)

        out : Leaves S.input i (least S.input.states (lost_exit S i o))
        out = leaves_told S.input i j a (lost_exit_leaves S i o j found)

    holds_unserved : nontrivial S.input i ≡ true → any S.input.states (lost_exit S i o) ≡ false → nontrivial S.output o ≡ true
        → Unserved S i o (first_owed S i o) (first_missed S o (first_owed S i o))
    unfolding first_owed first_missed
    holds_unserved n x m = record {
      lost = lost_at_lem S i o a b w;
      staying = nontrivial_told S.output o b m;
      due = due_from S i k below (owed_due S i o k found);
      number = within;
      misses = λ v. clash (told_meets S.output o _ b v) (missed_elim S o k c (least_member sets (missed S o k) within));
      first = λ q l. meets_told S.output o _ (met S o k q (least_before sets (missed S o k) q l));
    }
      where
        k : ℕ
        k = first_owed S i o

        sets : ℕ
        sets = length (nth_requirement S (first_owed S i o)).guarantees

        c : ℕ
        c = first_missed S o (first_owed S i o)

        below : first_owed S i o < length S.requirements
        below =
            let v = owed_some S i o a b w n m x in
            least_below (length S.requirements) (owed S i o) v.0 v.1 v.2

        found : owed S i o (first_owed S i o) ≡ true
        found = least_member (length S.requirements) (owed S i o) below

        within : first_missed S o (first_owed S i o) < length (nth_requirement S (first_owed S i o)).guarantees
        within =
            let v = served_fails S o k (owed_served S i o k found) in
            least_below sets (missed S o k) v.0 v.1 (missed_intro S o k v.0 v.2)

    holds_pushed_on : nontrivial S.output o ≡ false → PushedOn S i o
    holds_pushed_on m = record { lost = lost_at_lem S i o a b w; trivial = trivial_told S.output o b m }

  holds_won : region S i o ≡ true → Holds S i o (ground S i o)
  unfolding Holds
  holds_won w =
      elim (decide (stuck S.input i)) [
        | inl t ↦ subst⁻¹ (Holds S i o) (is_input_stuck S i o w t) (holds_input_stuck w t)
        | inr t ↦
            elim (decide (nontrivial S.input i)) [
              | inl n ↦ subst⁻¹ (Holds S i o) (is_at_home S i o w t n) (holds_at_home w n)
              | inr n ↦ subst⁻¹ (Holds S i o) (is_by_replies S i o w t n) (holds_by_replies w n)
            ]
      ]

  holds_pressed : region S i o ≡ false → stuck S.output o ≡ false → nontrivial S.input i ≡ true → Holds S i o (ground S i o)
  unfolding Holds
  holds_pressed w t n =
      elim (decide (any S.input.states (lost_exit S i o))) [
        | inl x ↦ subst⁻¹ (Holds S i o) (is_by_way_out S i o w t n x) (holds_by_way_out w x)
        | inr x ↦
            elim (decide (nontrivial S.output o)) [
              | inl m ↦ subst⁻¹ (Holds S i o) (is_unserved S i o w t n x m) (holds_unserved w n x m)
              | inr m ↦ subst⁻¹ (Holds S i o) (is_pushed_on S i o w t n x m) (holds_pushed_on w m)
            ]
      ]

  holds_lost : region S i o ≡ false → Holds S i o (ground S i o)
  unfolding Holds
  holds_lost w =
      elim (decide (stuck S.output o)) [
        | inl t ↦ subst⁻¹ (Holds S i o) (is_output_stuck S i o w t) (holds_output_stuck w t)
        | inr t ↦
            elim (decide (nontrivial S.input i)) [
              | inl n ↦ holds_pressed w t n
              | inr n ↦ subst⁻¹ (Holds S i o) (is_unanswered S i o w t n) (holds_unanswered w n)
            ]
      ]

  pub ground_holds : Holds S i o (ground S i o)
  ground_holds = elim (decide (region S i o)) [ inl w ↦ holds_won w | inr w ↦ holds_lost w ]
