-- Laws of visiting a set, and of meeting and breaking a requirement.
--
--   visits_input_intro, visits_input_elim, and of outputs    : some configuration has its state in the set
--   meets_intro, meets_elim         : if every input set is visited, so is every output set
--   breaks_intro, breaks_elim       : what breaks does not meet
--   meets_same                      : it depends on the inputs and the outputs alone
--   meets_breaks                    : what meets all requirements breaks none
use mathlib.Core.Path.{◌≡◌, refl, sym, ◌∙◌, ap}
use Prim.Native.Nat.{ℕ}
use mathlib.Core.Bool.{Bool, true, false, not}
use mathlib.Core.List.{List, map, Memᴰ}
use mathlib.Core.Logic.{inl, inr}
use Rattle.finite.specs.Lists.{all_of, any_of}
use Rattle.finite.proofs.Truth.{decide, clash, or_left, or_right, or_cases, not_true, not_false}
use Rattle.finite.proofs.Lists.{all_of_intro, all_of_elim, any_of_intro, any_of_elim, any_of_none, any_of_false, all_of_same, any_of_same, any_of_map, all_of_any_of}
use Rattle.arena.specs.Arena.{Requirement}
use Rattle.arena.specs.Play.{Configuration, visits_input, visits_output, meets, breaks}

pub visits_input_intro : (s : ℕ → Bool) {cs : List Configuration} {c : Configuration} → Memᴰ c cs → s c.input ≡ true → visits_input s cs ≡ true
unfolding visits_input
visits_input_intro s m h = any_of_intro (λ c. s c.input) m h

pub visits_input_elim : (s : ℕ → Bool) (cs : List Configuration) → visits_input s cs ≡ true
    → (c : Configuration) × Memᴰ c cs × (s c.input ≡ true)
unfolding visits_input
visits_input_elim s cs h = any_of_elim (λ c. s c.input) cs h

pub visits_output_intro : (s : ℕ → Bool) {cs : List Configuration} {c : Configuration} → Memᴰ c cs → s c.output ≡ true → visits_output s cs ≡ true
unfolding visits_output
visits_output_intro s m h = any_of_intro (λ c. s c.output) m h

pub visits_output_elim : (s : ℕ → Bool) (cs : List Configuration) → visits_output s cs ≡ true
    → (c : Configuration) × Memᴰ c cs × (s c.output ≡ true)
unfolding visits_output
visits_output_elim s cs h = any_of_elim (λ c. s c.output) cs h

pub breaks_intro : (q : Requirement) (cs : List Configuration) → meets q cs ≡ false → breaks q cs ≡ true
unfolding breaks
breaks_intro q cs h = ap not h

pub breaks_elim : (q : Requirement) (cs : List Configuration) → breaks q cs ≡ true → meets q cs ≡ false
unfolding breaks
breaks_elim q cs h = not_true (meets q cs) h

-- Visits depend on the inputs and the outputs alone, and so does the requirement.
visits_input_inputs : (s : ℕ → Bool) (cs : List Configuration) → visits_input s cs ≡ any_of s (map (λ c. c.input) cs)
unfolding visits_input
visits_input_inputs s cs = sym (any_of_map s (λ c. c.input) cs)

visits_output_outputs : (s : ℕ → Bool) (cs : List Configuration) → visits_output s cs ≡ any_of s (map (λ c. c.output) cs)
unfolding visits_output
visits_output_outputs s cs = sym (any_of_map s (λ c. c.output) cs)

none_missed : (q : Requirement) (cs : List Configuration)
    → any_of (λ s. not (visits_input s cs)) q.assumptions ≡ false → all_of (λ s. visits_input s cs) q.assumptions ≡ true
none_missed q cs e =
    all_of_intro (λ s. visits_input s cs) q.assumptions
    (λ s m. not_false (visits_input s cs) (any_of_false (λ s. not (visits_input s cs)) q.assumptions e s m))

none_left : (q : Requirement) (cs : List Configuration)
    → all_of (λ s. visits_input s cs) q.assumptions ≡ true → any_of (λ s. not (visits_input s cs)) q.assumptions ≡ false
none_left q cs e =
    any_of_none (λ s. not (visits_input s cs)) q.assumptions
    (λ s m. ap not (all_of_elim (λ s. visits_input s cs) q.assumptions e s m))

-- "misses some input set or visits every output set", told as an implication
pub meets_intro : (q : Requirement) (cs : List Configuration)
    → (all_of (λ s. visits_input s cs) q.assumptions ≡ true → all_of (λ s. visits_output s cs) q.guarantees ≡ true) → meets q cs ≡ true
unfolding meets
meets_intro q cs h =
    elim (decide (any_of (λ s. not (visits_input s cs)) q.assumptions)) [
      | inl e ↦ or_left (all_of (λ s. visits_output s cs) q.guarantees) e
      | inr e ↦ or_right (any_of (λ s. not (visits_input s cs)) q.assumptions) (h (none_missed q cs e))
    ]

pub meets_elim : (q : Requirement) (cs : List Configuration) → meets q cs ≡ true
    → all_of (λ s. visits_input s cs) q.assumptions ≡ true → all_of (λ s. visits_output s cs) q.guarantees ≡ true
unfolding meets
meets_elim q cs h k =
    elim (or_cases (any_of (λ s. not (visits_input s cs)) q.assumptions) (all_of (λ s. visits_output s cs) q.guarantees) h) [
      | inl e ↦ clash e (none_left q cs k)
      | inr e ↦ e
    ]

module _ (cs ds : List Configuration)
    (inputs : map (λ (c : Configuration). c.input) cs ≡ map (λ (c : Configuration). c.input) ds)
    (outputs : map (λ (c : Configuration). c.output) cs ≡ map (λ (c : Configuration). c.output) ds) where
  visits_input_same : (s : ℕ → Bool) → visits_input s cs ≡ visits_input s ds
  visits_input_same s = visits_input_inputs s cs ∙ ap (any_of s) inputs ∙ sym (visits_input_inputs s ds)

  visits_output_same : (s : ℕ → Bool) → visits_output s cs ≡ visits_output s ds
  visits_output_same s = visits_output_outputs s cs ∙ ap (any_of s) outputs ∙ sym (visits_output_outputs s ds)

  meets_same : (q : Requirement) → meets q cs ≡ meets q ds
  unfolding meets
  meets_same q =
      rw (
        any_of_same (λ s. not (visits_input s cs)) (λ s. not (visits_input s ds)) q.assumptions (λ s m. ap not (visits_input_same s)),
        all_of_same (λ s. visits_output s cs) (λ s. visits_output s ds) q.guarantees (λ s m. visits_output_same s),
      ) refl

  -- what meets all requirements breaks none
  pub meets_breaks : (qs : List Requirement) → all_of (λ q. meets q cs) qs ≡ true → any_of (λ q. breaks q ds) qs ≡ true → ⊥
  meets_breaks qs h k =
      let w = all_of_any_of (λ q. meets q cs) (λ q. breaks q ds) qs h k in
      clash (sym (meets_same w.0) ∙ w.1) (breaks_elim w.0 ds w.2)
