-- The right to wait: what is won stays won when the input goes on and the output goes back. Dead ends are allowed.
--
--   output_back   : a position is won where a move of its output leads to a won one
--   input_on      : and stays won along a move of its input
--   delay         : both, along any walks
--   region_same   : the region depends on the two components only
--   reply         : at a won position every next input has a reply that makes a won position
use Prim.Native.Nat.{ℕ, zero, suc, ◌≤◌, ◌<◌}
use mathlib.Core.Path.{◌≡◌, sym, ◌∙◌}
use mathlib.Core.Bool.{true, false}
use mathlib.Core.Logic.{◌⊎◌, inl, inr}
use native.Mathlib.Omega.{arith}
use Rattle.finite.proofs.Truth.{decide, same_test}
use Rattle.graphs.specs.Walk.{stay, step}
use Rattle.graphs.specs.Graph.{Graph, edge}
use Rattle.graphs.specs.Closure.{reaches}
use Rattle.graphs.specs.Component.{joined, nontrivial, rank}
use Rattle.graphs.proofs.Graph.{edge_from, edge_to}
use Rattle.graphs.proofs.Closure.{Path, reaches_to, reaches_edge, reaches_trans, reaches_path, path_reaches}
use Rattle.graphs.proofs.Component.{rank_trivial, rank_le, rank_pos, joined_self, joined_there, joined_back, leaves_intro, nontrivial_same, nontrivial_move}
use Rattle.arena.specs.Arena.{Separated}
use Rattle.theory.specs.Region.{home_for, settles, answers, replies, region}
use Rattle.theory.proofs.Region.{
  answers_intro,
  answers_elim,
  replies_intro,
  replies_elim,
  settles_intro,
  settles_elim,
  home_for_same,
  home_for_safe,
  home_for_nontrivial,
  safe_elim,
  region_in,
  region_out,
  region_settles,
  region_replies,
}

-- a move of o that still reaches a nontrivial component which o reaches
pub first_move_lem : (G : Graph) (o d : ℕ) → Path G o d → nontrivial G d ≡ true → (p : ℕ) × (edge G o p ≡ true) × (reaches G p d ≡ true)
first_move_lem G o d stay t = let v = nontrivial_move G d t in (v.0, v.1, joined_back G d v.0 v.2)
first_move_lem G o d (step {b = p} e w) t = (p, e, path_reaches G p d (edge_to G o p e) w)

module _ (S : Separated) where
  -- a home that o reaches, o' reaches too
  back_settles : (i o' o : ℕ) → edge S.output o' o ≡ true → settles S (region S) i o ≡ true → settles S (region S) i o' ≡ true
  back_settles i o' o e h =
      let v = settles_elim S (region S) i o h in
      settles_intro S (region S) i o' v.0 (reaches_trans S.output o' o v.0 (reaches_edge S.output o' o e) v.1) v.2

  -- by induction on how many states the input reaches: o' answers each next input by o, since o has an answer to it
  back_replies : (k i o' o : ℕ) → nontrivial S.input i ≡ false → rank S.input i ≤ suc k → edge S.output o' o ≡ true
      → ((j p : ℕ) → rank S.input j ≤ k → edge S.output o p ≡ true → region S j p ≡ true → region S j o ≡ true)
      → replies S (region S) i o ≡ true → replies S (region S) i o' ≡ true
  back_replies k i o' o t l e rec h =
      replies_intro S (region S) i o'
      (λ j m. let v = answers_elim S (region S) j o (replies_elim S (region S) i o j h m) in
      answers_intro S (region S) j o' o e (rec j v.0 (omega (arith, rank_trivial S.input i j t m)) v.1 v.2))

  back_fuel : (k i o' o : ℕ) → rank S.input i ≤ k → edge S.output o' o ≡ true → region S i o ≡ true → region S i o' ≡ true
  back_fuel zero i o' o l e h = absurd (omega (arith, rank_pos S.input i (region_in S i o h)))
  back_fuel (suc k) i o' o l e h = go (decide (nontrivial S.input i)) (λ j p. back_fuel k j o p)
    where
      a : i < S.input.states
      a = region_in S i o h

      go : (nontrivial S.input i ≡ true) ⊎ (nontrivial S.input i ≡ false)
          → ((j p : ℕ) → rank S.input j ≤ k → edge S.output o p ≡ true → region S j p ≡ true → region S j o ≡ true)
          → region S i o' ≡ true
      go (inl t) rec =
          region_settles S i o' a (edge_from S.output o' o e) t
          ∙ back_settles i o' o e (sym (region_settles S i o a (edge_to S.output o' o e) t) ∙ h)
      go (inr t) rec =
          region_replies S i o' a (edge_from S.output o' o e) t
          ∙ back_replies k i o' o t l e rec (sym (region_replies S i o a (edge_to S.output o' o e) t) ∙ h)

  pub output_back : (i o' o : ℕ) → edge S.output o' o ≡ true → region S i o ≡ true → region S i o' ≡ true
  output_back i o' o e h = back_fuel S.input.states i o' o (rank_le S.input i) e h

  output_path : (i o' o : ℕ) → Path S.output o' o → region S i o ≡ true → region S i o' ≡ true
  output_path i o' o stay h = h
  output_path i o' o (step {b = p} e w) h = output_back i o' p e (output_path i p o w h)

  pub output_delay : (i o' o : ℕ) → reaches S.output o' o ≡ true → region S i o ≡ true → region S i o' ≡ true
  output_delay i o' o r h = output_path i o' o (reaches_path S.output o' o r) h

  -- inside the component the conditions are the same; by an exit the home makes a won position, and o reaches it; elsewhere a reply makes one
  input_on : (i i' o : ℕ) → edge S.input i i' ≡ true → region S i o ≡ true → region S i' o ≡ true
  input_on i i' o e h = go (decide (nontrivial S.input i))
    where
      a : i < S.input.states
      a = region_in S i o h

      b : o < S.output.states
      b = region_out S i o h

      a' : i' < S.input.states
      a' = edge_to S.input i i' e

      within : (d : ℕ) → reaches S.output o d ≡ true → home_for S (region S) i d ≡ true → nontrivial S.input i ≡ true
          → (joined S.input i i' ≡ true) ⊎ (joined S.input i i' ≡ false) → region S i' o ≡ true
      within d r m t (inl j) =
          region_settles S i' o a' b (sym (nontrivial_same S.input i i' j) ∙ t)
          ∙ settles_intro S (region S) i' o d r (home_for_same S (region S) i i' d j m)
      within d r m t (inr j) =
          output_delay i' o d r
          (safe_elim S (region S) i d i' d (home_for_safe S (region S) i d m) (leaves_intro S.input i i i' (joined_self S.input i a) e j)
          (joined_self S.output d (reaches_to S.output o d r)))

      go : (nontrivial S.input i ≡ true) ⊎ (nontrivial S.input i ≡ false) → region S i' o ≡ true
      go (inl t) =
          let v = settles_elim S (region S) i o (sym (region_settles S i o a b t) ∙ h) in
          within v.0 v.1 v.2 t (decide (joined S.input i i'))
      go (inr t) =
          let v = answers_elim S (region S) i' o (replies_elim S (region S) i o i' (sym (region_replies S i o a b t) ∙ h) e) in
          output_back i' o v.0 v.1 v.2

  input_path : (i i' o : ℕ) → Path S.input i i' → region S i o ≡ true → region S i' o ≡ true
  input_path i i' o stay h = h
  input_path i i' o (step {b = j} e w) h = input_path j i' o w (input_on i j o e h)

  pub input_delay : (i i' o : ℕ) → reaches S.input i i' ≡ true → region S i o ≡ true → region S i' o ≡ true
  input_delay i i' o r h = input_path i i' o (reaches_path S.input i i' r) h

  -- The right to wait.
  pub delay : (i i' o o' : ℕ) → reaches S.input i i' ≡ true → reaches S.output o' o ≡ true → region S i o ≡ true → region S i' o' ≡ true
  delay i i' o o' r q h = output_delay i' o' o q (input_delay i i' o r h)

  -- The region depends on the two components only.
  pub region_same : (i i' o o' : ℕ) → joined S.input i i' ≡ true → joined S.output o o' ≡ true → region S i o ≡ region S i' o'
  region_same i i' o o' a b =
      same_test (region S i o) (region S i' o')
      (λ h. delay i i' o o' (joined_there S.input i i' a) (joined_back S.output o o' b) h)
      (λ h. delay i' i o' o (joined_back S.input i i' a) (joined_there S.output o o' b) h)

  pub reply : (i o j : ℕ) → region S i o ≡ true → edge S.input i j ≡ true → answers S (region S) j o ≡ true
  reply i o j h e = go (decide (nontrivial S.input i))
    where
      a : i < S.input.states
      a = region_in S i o h

      b : o < S.output.states
      b = region_out S i o h

      go : (nontrivial S.input i ≡ true) ⊎ (nontrivial S.input i ≡ false) → answers S (region S) j o ≡ true
      go (inl t) =
          let v = settles_elim S (region S) i o (sym (region_settles S i o a b t) ∙ h) in
          let m = first_move_lem S.output o v.0 (reaches_path S.output o v.0 v.1) (home_for_nontrivial S (region S) i v.0 v.2) in
          answers_intro S (region S) j o m.0 m.1
          (input_on i j m.0 e
          (region_settles S i m.0 a (edge_to S.output o m.0 m.1) t ∙ settles_intro S (region S) i m.0 v.0 m.2 v.2))
      go (inr t) = replies_elim S (region S) i o j (sym (region_replies S i o a b t) ∙ h) e
