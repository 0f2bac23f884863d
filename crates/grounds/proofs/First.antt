-- No ground before the ground of a position holds of it.
--
--   same_number                           : a ground comes no later than one of its number that names no lower ones
--   stuck_from                            : a state without a move is stuck
--   first_owed_at_most, first_missed_at_most  : the lowest requirement that is owed, and its first set that is missed
--   lasting, inescapable                : a stuck output, a next input and a way out come before what is left
--   first_input_stuck .. first_pushed_on    : where one holds, the ground of the position comes no later
--   ground_first                          : whichever it is
use Prim.Native.Nat.{ℕ, ◌≤◌, ◌<◌}
use mathlib.Core.Path.{◌≡◌, refl, subst⁻¹}
use mathlib.Core.Bool.{true, false}
use mathlib.Core.Logic.{inl, inr}
use native.Mathlib.Omega.{arith}
use native.Mathlib.Decide.{dec_lt}
use lib.ListN.{length}
use Rattle.finite.specs.Bounded.{any, least}
use Rattle.finite.proofs.Truth.{decide, clash, true_of, false_of}
use Rattle.finite.proofs.Bounded.{any_intro, least_at_most}
use Rattle.graphs.specs.Graph.{Graph, edge, stuck}
use Rattle.graphs.specs.Closure.{reaches}
use Rattle.graphs.specs.Component.{nontrivial, meets_at}
use Rattle.graphs.proofs.Graph.{stuck_moves}
use Rattle.graphs.proofs.Closure.{path_reaches, reaches_to}
use Rattle.graphs.proofs.Component.{joined_to}
use Rattle.arena.specs.Arena.{Separated}
use Rattle.theory.specs.Region.{due, served, answers, home_for, region}
use Rattle.theory.specs.Tour.{goal_at}
use Rattle.theory.specs.Choice.{home}
use Rattle.theory.proofs.Region.{answers_elim}
use Rattle.theory.proofs.Demands.{won_region, region_won}
use Rattle.grounds.specs.Ground.{
  Ground,
  input_stuck,
  by_replies,
  at_home,
  output_stuck,
  unanswered,
  by_way_out,
  unserved,
  pushed_on,
  ground_number,
  first_named,
  second_named,
  nth_requirement,
  unreplied,
  lost_exit,
  owed,
  missed,
  first_owed,
  first_missed,
  ground,
}
use Rattle.grounds.specs.Holds.{
  InputStuck,
  ByReplies,
  AtHome,
  OutputStuck,
  Unanswered,
  ByWayOut,
  Unserved,
  PushedOn,
  Holds,
  UpTo,
  sooner,
  lower,
  within,
}
use Rattle.grounds.proofs.Component.{joined_told, told_nontrivial, told_trivial, meets_told, told_meets, leaves_told, told_leaves, entered_below}
use Rattle.grounds.proofs.Tests.{
  region_lost,
  unreplied_intro,
  lost_exit_intro,
  due_from,
  due_test,
  served_at_lem,
  served_fails,
  owed_intro,
  missed_intro,
}
use Rattle.grounds.proofs.Branches.{
  is_input_stuck,
  is_by_replies,
  is_at_home,
  is_output_stuck,
  is_unanswered,
  is_by_way_out,
  is_unserved,
  is_pushed_on,
}
use Rattle.grounds.proofs.Homes.{home_lowest, home_for_told}
use Rattle.grounds.proofs.Holds.{moving_input}

pub same_number : (g h : Ground) → ground_number g ≡ ground_number h → first_named g ≤ first_named h → second_named g ≤ second_named h → UpTo g h
same_number g h p l m = elim (dec_lt (first_named g) (first_named h)) [ yes b ↦ lower p b | no b ↦ within p (omega arith) m ]

stuck_from : (G : Graph) (s : ℕ) → ((t : ℕ) → edge G s t ≡ false) → stuck G s ≡ true
stuck_from G s f = true_of (stuck G s) (λ n. let v = stuck_moves G s n in clash v.1 (f v.0))

first_owed_at_most : (S : Separated) (i o k : ℕ) → owed S i o k ≡ true → first_owed S i o ≤ k
unfolding first_owed
first_owed_at_most S i o k h = least_at_most (length S.requirements) (owed S i o) k h

first_missed_at_most : (S : Separated) (o k n : ℕ) → missed S o k n ≡ true → first_missed S o k ≤ n
unfolding first_missed
first_missed_at_most S o k n h = least_at_most (length (nth_requirement S k).guarantees) (missed S o k) n h

module _ (S : Separated) (i o : ℕ) (a : i < S.input.states) (b : o < S.output.states) where
  first_input_stuck : InputStuck S i o → UpTo (ground S i o) input_stuck
  unfolding ground_number first_named second_named
  first_input_stuck v =
      subst⁻¹ (λ g. UpTo g input_stuck) (is_input_stuck S i o (won_region S i o a b v.won) (stuck_from S.input i v.stuck))
      (within refl refl (omega arith))

  first_by_replies : ByReplies S i o → UpTo (ground S i o) by_replies
  unfolding ground_number first_named second_named
  first_by_replies v =
      elim (decide (stuck S.input i)) [
        | inl t ↦ subst⁻¹ (λ g. UpTo g by_replies) (is_input_stuck S i o w t) (sooner (omega arith))
        | inr t ↦ subst⁻¹ (λ g. UpTo g by_replies) (is_by_replies S i o w t (told_trivial S.input i a v.trivial)) (within refl refl (omega arith))
      ]
    where
      w : region S i o ≡ true
      w = won_region S i o a b v.won

  first_at_home : (d : ℕ) → AtHome S i o d → UpTo (ground S i o) (at_home d)
  unfolding ground_number first_named second_named
  first_at_home d v =
      subst⁻¹ (λ g. UpTo g (at_home d)) (is_at_home S i o (won_region S i o a b v.won) (moving_input S i o a b n) n)
      (same_number (at_home (home S i o)) (at_home d) refl (home_lowest S i o d ahead told) (omega arith))
    where
      n : nontrivial S.input i ≡ true
      n = told_nontrivial S.input i a v.staying

      ahead : reaches S.output o d ≡ true
      ahead = path_reaches S.output o d b v.reached

      below : d < S.output.states
      below = reaches_to S.output o d ahead

      serves : (k : ℕ) → k < length S.requirements → due S i (nth_requirement S k) ≡ true → served S d (nth_requirement S k) ≡ true
      serves k c u =
          true_of (served S d (nth_requirement S k))
          (λ f.
          let x = served_fails S d k f in
          clash (told_meets S.output d (goal_at (nth_requirement S k).guarantees x.0) below (v.serves k x.0 (due_from S i k c u) x.1)) x.2)

      told : home_for S (region S) i d ≡ true
      told =
          home_for_told S i d (told_nontrivial S.output d below v.lasting) serves
          (λ j e l t.
          let x = leaves_told S.input i j a l in
          won_region S j e (entered_below S.input i j x) (joined_to S.output d e t) (v.safe j e x (joined_told S.output d e t)))

  first_output_stuck : OutputStuck S i o → UpTo (ground S i o) output_stuck
  unfolding ground_number first_named second_named
  first_output_stuck v =
      subst⁻¹ (λ g. UpTo g output_stuck) (is_output_stuck S i o (region_lost S i o v.lost) (stuck_from S.output o v.stuck))
      (within refl refl (omega arith))

  -- A lost position has a stuck output, or an input in a trivial component, or one in a nontrivial component. The first two come before what is left.
  module _ (h : Ground) (later : 5 < ground_number h) (w : region S i o ≡ false) where
    lasting : (stuck S.output o ≡ false → nontrivial S.input i ≡ true → UpTo (ground S i o) h) → UpTo (ground S i o) h
    unfolding ground_number
    lasting f =
        elim (decide (stuck S.output o)) [
          | inl t ↦ subst⁻¹ (λ g. UpTo g h) (is_output_stuck S i o w t) (sooner (omega arith))
          | inr t ↦
              elim (decide (nontrivial S.input i)) [
                | inl n ↦ f t n
                | inr n ↦ subst⁻¹ (λ g. UpTo g h) (is_unanswered S i o w t n) (sooner (omega arith))
              ]
        ]

    -- and a way out before what is left then
    inescapable : 6 < ground_number h
        → (stuck S.output o ≡ false → nontrivial S.input i ≡ true → any S.input.states (lost_exit S i o) ≡ false → UpTo (ground S i o) h)
        → UpTo (ground S i o) h
    unfolding ground_number
    inescapable l f =
        lasting (λ t n.
        elim (decide (any S.input.states (lost_exit S i o))) [
          | inl x ↦ subst⁻¹ (λ g. UpTo g h) (is_by_way_out S i o w t n x) (sooner (omega arith))
          | inr x ↦ f t n x
        ])

  first_unanswered : (j : ℕ) → Unanswered S i o j → UpTo (ground S i o) (unanswered j)
  unfolding ground_number first_named second_named
  first_unanswered j v =
      elim (decide (stuck S.output o)) [
        | inl t ↦ subst⁻¹ (λ g. UpTo g (unanswered j)) (is_output_stuck S i o w t) (sooner (omega arith))
        | inr t ↦
            subst⁻¹ (λ g. UpTo g (unanswered j)) (is_unanswered S i o w t (told_trivial S.input i a v.trivial))
            (same_number (unanswered (least S.input.states (unreplied S i o))) (unanswered j) refl
            (least_at_most S.input.states (unreplied S i o) j (unreplied_intro S i o j v.move none)) (omega arith))
      ]
    where
      w : region S i o ≡ false
      w = region_lost S i o v.lost

      none : answers S (region S) j o ≡ false
      none =
          false_of (answers S (region S) j o)
          (λ h. let x = answers_elim S (region S) j o h in v.unreplied x.0 x.1 (region_won S j x.0 x.2))

  first_by_way_out : (j : ℕ) → ByWayOut S i o j → UpTo (ground S i o) (by_way_out j)
  unfolding ground_number first_named second_named
  first_by_way_out j v =
      lasting (by_way_out j) (omega arith) (region_lost S i o v.lost)
      (λ t n.
      subst⁻¹ (λ g. UpTo g (by_way_out j))
      (is_by_way_out S i o (region_lost S i o v.lost) t n
      (any_intro S.input.states (lost_exit S i o) j (entered_below S.input i j v.leaves) out))
      (same_number (by_way_out (least S.input.states (lost_exit S i o))) (by_way_out j) refl
      (least_at_most S.input.states (lost_exit S i o) j out) (omega arith)))
    where
      out : lost_exit S i o j ≡ true
      out = lost_exit_intro S i o j (told_leaves S.input i j a v.leaves) (region_lost S j o v.entered)

  first_unserved : (k n : ℕ) → Unserved S i o k n → UpTo (ground S i o) (unserved k n)
  unfolding ground_number first_named second_named
  first_unserved k n v =
      inescapable (unserved k n) (omega arith) w (omega arith)
      (λ t m x.
      subst⁻¹ (λ g. UpTo g (unserved k n)) (is_unserved S i o w t m x (told_nontrivial S.output o b v.staying)) (go (dec_lt (first_owed S i o) k)))
    where
      w : region S i o ≡ false
      w = region_lost S i o v.lost

      misses : missed S o k n ≡ true
      misses =
          missed_intro S o k n
          (false_of (meets_at S.output o (goal_at (nth_requirement S k).guarantees n)) (λ h. v.misses (meets_told S.output o _ h)))

      owes : owed S i o k ≡ true
      owes =
          owed_intro S i o k (due_test S i k a v.due)
          (false_of (served S o (nth_requirement S k)) (λ h. v.misses (meets_told S.output o _ (served_at_lem S o k n h v.number))))

      least_owed : first_owed S i o ≤ k
      least_owed = first_owed_at_most S i o k owes

      go : Dec (first_owed S i o < k) → UpTo (unserved (first_owed S i o) (first_missed S o (first_owed S i o))) (unserved k n)
      go (yes l) = lower refl l
      go (no l) =
          let e : first_owed S i o ≡ k = omega (arith, least_owed) in
          within refl e (subst⁻¹ (λ (q : ℕ). first_missed S o q ≤ n) e (first_missed_at_most S o k n misses))

  first_pushed_on : PushedOn S i o → UpTo (ground S i o) pushed_on
  unfolding ground_number first_named second_named
  first_pushed_on v =
      inescapable pushed_on (omega arith) w (omega arith)
      (λ t n x.
      subst⁻¹ (λ g. UpTo g pushed_on) (is_pushed_on S i o w t n x (told_trivial S.output o b v.trivial)) (within refl refl (omega arith)))
    where
      w : region S i o ≡ false
      w = region_lost S i o v.lost

  pub ground_first : (h : Ground) → Holds S i o h → UpTo (ground S i o) h
  unfolding Holds
  ground_first input_stuck v = first_input_stuck v
  ground_first by_replies v = first_by_replies v
  ground_first (at_home d) v = first_at_home d v
  ground_first output_stuck v = first_output_stuck v
  ground_first (unanswered j) v = first_unanswered j v
  ground_first (by_way_out j) v = first_by_way_out j v
  ground_first (unserved k n) v = first_unserved k n v
  ground_first pushed_on v = first_pushed_on v
