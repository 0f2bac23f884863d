-- Pins: which cycles meet a requirement. Each theorem holds of every list of configurations.
use Prim.Native.Nat.{ℕ}
use mathlib.Core.Path.{◌≡◌, refl}
use mathlib.Core.Bool.{Bool, true, false, not}
use mathlib.Core.List.{List, [], ◌∷◌}
use Rattle.finite.specs.Lists.{all_of, any_of}
use Rattle.finite.proofs.Truth.{or_right}
use Rattle.finite.proofs.Lists.{any_of_none}
use Rattle.arena.specs.Play.{Configuration, visits_input, visits_output, meets, breaks}

abbrev nowhere : ℕ → Bool
nowhere s = false

-- "An empty input set is never visited, an empty output set neither."
empty_input_set : (cs : List Configuration) → visits_input nowhere cs ≡ false
unfolding visits_input
empty_input_set cs = any_of_none (λ c. false) cs (λ c m. refl)

empty_output_set : (cs : List Configuration) → visits_output nowhere cs ≡ false
unfolding visits_output
empty_output_set cs = any_of_none (λ c. false) cs (λ c m. refl)

module _ (ins outs : List (ℕ → Bool)) (cs : List Configuration) where
  -- "A round meets a requirement when it misses some input set": an empty one is always missed.
  pub empty_input_set_met : meets (record { assumptions = nowhere ∷ ins; guarantees = outs }) cs ≡ true
  unfolding meets any_of
  empty_input_set_met = rw (empty_input_set cs) refl

  -- "or visits every output set, else breaks it": an empty one never is.
  pub empty_output_set_broken : breaks (record { assumptions = []; guarantees = nowhere ∷ outs }) cs ≡ true
  unfolding breaks meets any_of all_of
  empty_output_set_broken = rw (empty_output_set cs) refl

  -- "Hence no input sets: always due."
  pub no_input_sets : meets (record { assumptions = []; guarantees = outs }) cs ≡ all_of (λ s. visits_output s cs) outs
  unfolding meets any_of
  no_input_sets = refl

  -- "No output sets: always met."
  pub no_output_sets : meets (record { assumptions = ins; guarantees = [] }) cs ≡ true
  unfolding meets all_of
  no_output_sets = or_right (any_of (λ s. not (visits_input s cs)) ins) refl
