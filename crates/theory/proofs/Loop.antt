-- Closed walks of configurations: they stay in one component of each graph, which is nontrivial, and what falls at each turn ends.
--
--   Along S x c      == c's input and output lie in the components of x's
use Prim.Native.Nat.{ℕ, ◌<◌}
use mathlib.Core.Path.{◌≡◌, refl, sym, ◌∙◌, ap, subst}
use mathlib.Core.Bool.{Bool, true, false}
use mathlib.Core.Logic.{◌⊎◌, inl, inr}
use native.Mathlib.Omega.{arith}
use Rattle.finite.specs.Lists.{any_of}
use mathlib.Core.List.{List}
use Rattle.finite.proofs.Truth.{clash, or_right}
use Rattle.finite.proofs.Lists.{any_of_elim}
use Rattle.graphs.specs.Walk.{Walk, step, passed}
use Rattle.graphs.specs.Graph.{Graph, edge}
use Rattle.graphs.specs.Component.{joined, nontrivial}
use Rattle.graphs.proofs.Walk.{image}
use Rattle.graphs.proofs.Graph.{edge_from, edge_to}
use Rattle.graphs.proofs.Closure.{Path, reaches_edge, reaches_trans, path_reaches}
use Rattle.graphs.proofs.Component.{joined_intro, joined_there, joined_back, joined_self, nontrivial_intro, nontrivial_same}
use Rattle.graphs.proofs.Measure.{targets, passed_targets, lands, finds}
use Rattle.arena.specs.Arena.{Separated}
use Rattle.arena.specs.Play.{Configuration, Cycle, configurations}

-- no element has a property that nothing has
pub nowhere : {A : Type 0} (l : List A) → any_of (λ (a : A). false) l ≡ true → ⊥
nowhere l h = let v = any_of_elim (λ a. false) l h in clash v.2 refl

-- the same state, seen through an edge out and a walk back
closes : (G : Graph) (x y z : ℕ) → joined G x y ≡ true → edge G y z ≡ true → Path G z x → joined G x z ≡ true
closes G x y z a e w =
    joined_intro G x z (reaches_trans G x y z (joined_there G x y a) (reaches_edge G y z e)) (path_reaches G z x (edge_to G y z e) w)

-- c lies in the components of x
pub record Along (S : Separated) (x c : Configuration) : Type 0 where
  pub inputs : joined S.input x.input c.input ≡ true
  pub outputs : joined S.output x.output c.output ≡ true

module _ (S : Separated) (First : Configuration → Type 0) (Turn : Configuration → Configuration → Type 0)
    (turn_in : (x y : Configuration) → Turn x y → edge S.input x.input y.input ≡ true)
    (turn_out : (x y : Configuration) → Turn x y → edge S.output x.output y.output ≡ true) where
  inputs_back : {x y : Configuration} → Walk Turn x y → Path S.input x.input y.input
  inputs_back w = image (λ (a b : ℕ). edge S.input a b ≡ true) (λ (c : Configuration). c.input) turn_in w

  outputs_back : {x y : Configuration} → Walk Turn x y → Path S.output x.output y.output
  outputs_back w = image (λ (a b : ℕ). edge S.output a b ≡ true) (λ (c : Configuration). c.output) turn_out w

  module _ (r : Cycle First Turn) where
    pub along_first : Along S r.at r.at
    along_first = record {
      inputs = joined_self S.input r.at.input (edge_from S.input r.at.input r.next.input (turn_in r.at r.next r.turn));
      outputs = joined_self S.output r.at.output (edge_from S.output r.at.output r.next.output (turn_out r.at r.next r.turn));
    }

    pub along_turn : (x y : Configuration) → Along S r.at x → Turn x y → Walk Turn y r.last → Along S r.at y
    along_turn x y a t w = record {
      inputs = closes S.input r.at.input x.input y.input a.inputs (turn_in x y t) (inputs_back (subst (Walk Turn y) r.back w));
      outputs = closes S.output r.at.output x.output y.output a.outputs (turn_out x y t) (outputs_back (subst (Walk Turn y) r.back w));
    }

    along_next : Along S r.at r.next
    along_next = along_turn r.at r.next along_first r.turn r.rest

    pub nontrivial_input : nontrivial S.input r.at.input ≡ true
    nontrivial_input =
        nontrivial_intro S.input r.at.input r.next.input (turn_in r.at r.next r.turn)
        (joined_back S.input r.at.input r.next.input along_next.inputs)

    pub nontrivial_output : nontrivial S.output r.at.output ≡ true
    nontrivial_output =
        nontrivial_intro S.output r.at.output r.next.output (turn_out r.at r.next r.turn)
        (joined_back S.output r.at.output r.next.output along_next.outputs)

    pub nontrivial_along : (c : Configuration) → Along S r.at c → nontrivial S.input c.input ≡ true
    nontrivial_along c a = sym (nontrivial_same S.input r.at.input c.input a.inputs) ∙ nontrivial_input

    -- where each turn lands in p or lowers a number, the round lands in p
    pub cycle_lands : (I : Configuration → Type 0) (p : Configuration → Bool) (μ : Configuration → ℕ)
        → ((x y : Configuration) → I x → Turn x y → Walk Turn y r.last → I y × ((p y ≡ true) ⊎ (μ y < μ x)))
        → I r.at → any_of p (configurations First Turn r) ≡ true
    unfolding configurations targets any_of
    cycle_lands I p μ f i =
        elim (lands r.last I p μ f (step r.turn r.rest) i) [
          | inl h ↦ or_right (p r.at) (rw (passed_targets r.rest) h)
          | inr h ↦ absurd (omega (arith, ap μ r.back))
        ]

    -- what holds at first and is kept by the turns holds of what the round visits
    pub cycle_finds : (I : Configuration → Type 0)
        → ((x y : Configuration) → I x → Turn x y → Walk Turn y r.last → I y)
        → I r.at → (p : Configuration → Bool) → any_of p (configurations First Turn r) ≡ true → (c : Configuration) × I c × (p c ≡ true)
    unfolding configurations passed
    cycle_finds I f i p h = finds r.last I f p (step r.turn r.rest) i h
