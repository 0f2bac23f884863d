-- Homes: what the home of a position is, and where there is none.
--
--   home_for_joined    : the states of a component are homes together
--   home_lowest       : no state that is a home and is reached lies before home
--   home_number       : home is the smallest state of its component
--   accepting_at      : every requirement that is due is served, place by place
--   home_for_told      : what the ground says of a home makes it one
--   owed_some         : where the output's component is nontrivial and no way out is lost, a lost position owes one
use Prim.Native.Nat.{ℕ, ◌≤◌, ◌<◌}
use mathlib.Core.Path.{◌≡◌, sym, ◌∙◌, ap}
use mathlib.Core.Bool.{Bool, true, false, ◌&&◌, ◌||◌, not}
use mathlib.Core.List.{[]}
use lib.ListN.{length}
use Rattle.finite.specs.Bounded.{any}
use Rattle.finite.proofs.Truth.{clash, true_of, false_of, and_intro, not_false, or_false_left, or_false_right, implies_intro, implies_elim}
use Rattle.finite.proofs.Bounded.{any_intro, least_at_most}
use Rattle.finite.proofs.Lists.{all_of_same}
use Rattle.graphs.specs.Closure.{reaches}
use Rattle.graphs.specs.Component.{joined, nontrivial, leaves, meets_at}
use Rattle.graphs.proofs.Closure.{reaches_self, reaches_trans}
use Rattle.graphs.proofs.Graph.{edge_to}
use Rattle.graphs.proofs.Component.{joined_there, joined_trans, nontrivial_same, leaves_elim, meets_at_same}
use Rattle.arena.specs.Arena.{Separated}
use Rattle.theory.specs.Region.{due, served, accepting, safe, home_for, settles, region}
use Rattle.theory.specs.Choice.{home}
use Rattle.theory.proofs.Region.{
  safe_intro,
  safe_elim,
  home_for_intro,
  home_for_nontrivial,
  home_for_accepting,
  home_for_safe,
  settles_intro,
  region_settles,
}
use Rattle.theory.proofs.ControllerRow.{home_reached, home_home_for}
use Rattle.theory.proofs.EnvironmentRow.{region_output}
use Rattle.grounds.specs.Ground.{nth_requirement, lost_exit, owed}
use Rattle.grounds.proofs.Component.{all_of_at, all_of_place}
use Rattle.grounds.proofs.Tests.{lost_exit_intro, owed_intro}

module _ (S : Separated) where
  accepting_joined : (i d e : ℕ) → joined S.output d e ≡ true → accepting S i d ≡ accepting S i e
  unfolding accepting served
  accepting_joined i d e h =
      all_of_same (λ q. not (due S i q) || served S d q) (λ q. not (due S i q) || served S e q) S.requirements
      (λ q m. ap (λ (b : Bool). not (due S i q) || b)
      (all_of_same (meets_at S.output d) (meets_at S.output e) q.guarantees (λ p n. meets_at_same S.output d e p h)))

  home_for_joined : (i d e : ℕ) → joined S.output d e ≡ true → home_for S (region S) i d ≡ true → home_for S (region S) i e ≡ true
  home_for_joined i d e h f =
      home_for_intro S (region S) i e (sym (nontrivial_same S.output d e h) ∙ home_for_nontrivial S (region S) i d f)
      (sym (accepting_joined i d e h) ∙ home_for_accepting S (region S) i d f)
      (safe_intro S (region S) i e
      (λ j p l c. safe_elim S (region S) i d j p (home_for_safe S (region S) i d f) l (joined_trans S.output d e p h c)))

  pub home_lowest : (i o d : ℕ) → reaches S.output o d ≡ true → home_for S (region S) i d ≡ true → home S i o ≤ d
  unfolding home
  home_lowest i o d r h =
      least_at_most S.output.states (λ e. reaches S.output o e && home_for S (region S) i e) d (and_intro r h)

  pub home_number : (i o e : ℕ) → settles S (region S) i o ≡ true → joined S.output (home S i o) e ≡ true → home S i o ≤ e
  home_number i o e s h =
      home_lowest i o e (reaches_trans S.output o (home S i o) e (home_reached S i o s) (joined_there S.output (home S i o) e h))
      (home_for_joined i (home S i o) e h (home_home_for S i o s))

  -- requirements, place by place

  pub accepting_at : (i d k : ℕ) → accepting S i d ≡ true → k < length S.requirements → due S i (nth_requirement S k) ≡ true
      → served S d (nth_requirement S k) ≡ true
  unfolding accepting nth_requirement
  accepting_at i d k h b u =
      implies_elim (due S i (nth_requirement S k)) (served S d (nth_requirement S k))
      (all_of_at (λ q. not (due S i q) || served S d q) (record { assumptions = []; guarantees = [] }) S.requirements h k b) u

  accepting_fails : (i d : ℕ) → accepting S i d ≡ false → (k : ℕ) × (k < length S.requirements) × (owed S i d k ≡ true)
  unfolding accepting nth_requirement
  accepting_fails i d h =
      let v = all_of_place (λ q. not (due S i q) || served S d q) (record { assumptions = []; guarantees = [] }) S.requirements h in
      let q = nth_requirement S v.0 in (
        v.0,
        v.1,
        owed_intro S i d v.0
            (not_false (due S i q) (or_false_left (not (due S i q)) (served S d q) v.2))
            (or_false_right (not (due S i q)) (served S d q) v.2),
      )

  accepting_told : (i d : ℕ)
      → ((k : ℕ) → k < length S.requirements → due S i (nth_requirement S k) ≡ true → served S d (nth_requirement S k) ≡ true)
      → accepting S i d ≡ true
  unfolding accepting nth_requirement
  accepting_told i d f =
      true_of (accepting S i d)
      (λ h.
      let v = all_of_place (λ q. not (due S i q) || served S d q) (record { assumptions = []; guarantees = [] }) S.requirements h in
      let q = nth_requirement S v.0 in
      clash (implies_intro (due S i q) (served S d q) (f v.0 v.1)) v.2)

  -- a home, from what its ground says
  pub home_for_told : (i d : ℕ) → nontrivial S.output d ≡ true
      → ((k : ℕ) → k < length S.requirements → due S i (nth_requirement S k) ≡ true → served S d (nth_requirement S k) ≡ true)
      → ((j e : ℕ) → leaves S.input i j ≡ true → joined S.output d e ≡ true → region S j e ≡ true)
      → home_for S (region S) i d ≡ true
  home_for_told i d n f s = home_for_intro S (region S) i d n (accepting_told i d f) (safe_intro S (region S) i d s)

  module _ (i o : ℕ) (a : i < S.input.states) (b : o < S.output.states) where
    -- with no way out lost, every state entered makes won positions with the output's component
    safe_here : any S.input.states (lost_exit S i o) ≡ false → safe S (region S) i o ≡ true
    safe_here x =
        safe_intro S (region S) i o
        (λ j e l c. sym (region_output S j o e c)
        ∙ true_of (region S j o)
        (λ h. let y = lost_exit_intro S i o j l h in clash (any_intro S.input.states (lost_exit S i o) j (entered_at j l) y) x))
      where
        entered_at : (j : ℕ) → leaves S.input i j ≡ true → j < S.input.states
        entered_at j l = let v = leaves_elim S.input i j l in edge_to S.input v.0 j v.2

    -- the output's component would be a home
    pub owed_some : region S i o ≡ false → nontrivial S.input i ≡ true → nontrivial S.output o ≡ true
        → any S.input.states (lost_exit S i o) ≡ false → (k : ℕ) × (k < length S.requirements) × (owed S i o k ≡ true)
    owed_some w n m x =
        accepting_fails i o
        (false_of (accepting S i o)
        (λ h. clash
        (region_settles S i o a b n
        ∙ settles_intro S (region S) i o o (reaches_self S.output o b) (home_for_intro S (region S) i o m h (safe_here x))) w))
