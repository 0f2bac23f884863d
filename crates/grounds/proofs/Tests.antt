-- What the tests of a ground say, of won and lost positions.
--
--   lost_at_lem                         : not in the region, and lost
--   region_lost                     : lost, and not in the region
--   unreplied_intro, unreplied_move, unreplied_none
--   lost_exit_intro, lost_exit_leaves, lost_exit_lost
--   due_from, due_test              : Due and due
--   served_at_lem, served_fails         : every output set meets the component, or a place at which one does not
--   owed_intro, owed_due, owed_served
--   missed_intro, missed_elim, met  : missed, and not missed
use Prim.Native.Nat.{ℕ, ◌<◌}
use mathlib.Core.Path.{◌≡◌, ap}
use mathlib.Core.Bool.{true, false, not}
use lib.ListN.{length}
use Rattle.finite.proofs.Truth.{clash, true_of, false_of, and_intro, and_left, and_right, not_true, not_false}
use Rattle.graphs.specs.Graph.{edge}
use Rattle.graphs.specs.Component.{leaves, meets_at}
use Rattle.arena.specs.Arena.{Separated}
use Rattle.theory.specs.Region.{due, served, answers, region}
use Rattle.theory.specs.Tour.{goal_at}
use Rattle.theory.proofs.Demands.{won_region, region_won}
use Rattle.grounds.specs.Ground.{nth_requirement, unreplied, lost_exit, owed, missed}
use Rattle.grounds.specs.Holds.{Lost, Due}
use Rattle.grounds.proofs.Component.{meets_told, told_meets, all_of_at, all_of_place}

module _ (S : Separated) where
  pub lost_at_lem : (i o : ℕ) → i < S.input.states → o < S.output.states → region S i o ≡ false → Lost S i o
  lost_at_lem i o a b h w = clash (won_region S i o a b w) h

  pub region_lost : (i o : ℕ) → Lost S i o → region S i o ≡ false
  region_lost i o n = false_of (region S i o) (λ h. n (region_won S i o h))

  pub unreplied_intro : (i o j : ℕ) → edge S.input i j ≡ true → answers S (region S) j o ≡ false → unreplied S i o j ≡ true
  unfolding unreplied
  unreplied_intro i o j e h = and_intro e (ap not h)

  pub unreplied_move : (i o j : ℕ) → unreplied S i o j ≡ true → edge S.input i j ≡ true
  unfolding unreplied
  unreplied_move i o j h = and_left (edge S.input i j) (not (answers S (region S) j o)) h

  pub unreplied_none : (i o j : ℕ) → unreplied S i o j ≡ true → answers S (region S) j o ≡ false
  unfolding unreplied
  unreplied_none i o j h = not_true (answers S (region S) j o) (and_right (edge S.input i j) (not (answers S (region S) j o)) h)

  pub lost_exit_intro : (i o j : ℕ) → leaves S.input i j ≡ true → region S j o ≡ false → lost_exit S i o j ≡ true
  unfolding lost_exit
  lost_exit_intro i o j l h = and_intro l (ap not h)

  pub lost_exit_leaves : (i o j : ℕ) → lost_exit S i o j ≡ true → leaves S.input i j ≡ true
  unfolding lost_exit
  lost_exit_leaves i o j h = and_left (leaves S.input i j) (not (region S j o)) h

  pub lost_exit_lost : (i o j : ℕ) → lost_exit S i o j ≡ true → region S j o ≡ false
  unfolding lost_exit
  lost_exit_lost i o j h = not_true (region S j o) (and_right (leaves S.input i j) (not (region S j o)) h)

  -- what is due, and served, place by place

  pub due_from : (i k : ℕ) → k < length S.requirements → due S i (nth_requirement S k) ≡ true → Due S i k
  unfolding due goal_at
  due_from i k b h = record {
    number = b;
    meets = λ n c. meets_told S.input i (goal_at (nth_requirement S k).assumptions n)
        (all_of_at (meets_at S.input i) (λ s. false) (nth_requirement S k).assumptions h n c);
  }

  pub due_test : (i k : ℕ) → i < S.input.states → Due S i k → due S i (nth_requirement S k) ≡ true
  unfolding due goal_at
  due_test i k a u =
      true_of (due S i (nth_requirement S k))
      (λ f. let v = all_of_place (meets_at S.input i) (λ s. false) (nth_requirement S k).assumptions f in
      clash (told_meets S.input i (goal_at (nth_requirement S k).assumptions v.0) a (u.meets v.0 v.1)) v.2)

  pub served_at_lem : (d k n : ℕ) → served S d (nth_requirement S k) ≡ true → n < length (nth_requirement S k).guarantees
      → meets_at S.output d (goal_at (nth_requirement S k).guarantees n) ≡ true
  unfolding served goal_at
  served_at_lem d k n h b = all_of_at (meets_at S.output d) (λ s. false) (nth_requirement S k).guarantees h n b

  pub served_fails : (d k : ℕ) → served S d (nth_requirement S k) ≡ false
      → (n : ℕ) × (n < length (nth_requirement S k).guarantees) × (meets_at S.output d (goal_at (nth_requirement S k).guarantees n) ≡ false)
  unfolding served goal_at
  served_fails d k h = all_of_place (meets_at S.output d) (λ s. false) (nth_requirement S k).guarantees h

  pub owed_intro : (i o k : ℕ) → due S i (nth_requirement S k) ≡ true → served S o (nth_requirement S k) ≡ false → owed S i o k ≡ true
  unfolding owed
  owed_intro i o k u h = and_intro u (ap not h)

  pub owed_due : (i o k : ℕ) → owed S i o k ≡ true → due S i (nth_requirement S k) ≡ true
  unfolding owed
  owed_due i o k h = and_left (due S i (nth_requirement S k)) (not (served S o (nth_requirement S k))) h

  pub owed_served : (i o k : ℕ) → owed S i o k ≡ true → served S o (nth_requirement S k) ≡ false
  unfolding owed
  owed_served i o k h =
      not_true (served S o (nth_requirement S k)) (and_right (due S i (nth_requirement S k)) (not (served S o (nth_requirement S k))) h)

  pub missed_intro : (o k n : ℕ) → meets_at S.output o (goal_at (nth_requirement S k).guarantees n) ≡ false → missed S o k n ≡ true
  unfolding missed
  missed_intro o k n h = ap not h

  pub missed_elim : (o k n : ℕ) → missed S o k n ≡ true → meets_at S.output o (goal_at (nth_requirement S k).guarantees n) ≡ false
  unfolding missed
  missed_elim o k n h = not_true (meets_at S.output o (goal_at (nth_requirement S k).guarantees n)) h

  pub met : (o k n : ℕ) → missed S o k n ≡ false → meets_at S.output o (goal_at (nth_requirement S k).guarantees n) ≡ true
  unfolding missed
  met o k n h = not_false (meets_at S.output o (goal_at (nth_requirement S k).guarantees n)) h
