-- The lengths of both tables: "inputs + outputs × max(1, G) × inputs entries", "1 + inputs × max(1, H) × outputs entries".
use Prim.Native.Nat.{ℕ, ◌+◌, ◌*◌, ◌≤◌}
use native.Mathlib.Nat.{mul-le-mul}
use mathlib.Core.Path.{◌≡◌, sym, ◌∙◌, ap}
use native.Mathlib.Omega.{arith}
use lib.ListN.{length}
use Rattle.game.specs.declared.Game.{Game}
use Rattle.game.specs.Acceptance.{accepted, acceptance}
use Rattle.game.proofs.Laws.{accepted_fits}
use Rattle.play.specs.Play.{graph_of, separated_of}
use Rattle.theory.specs.Entries.{controller_counters, environment_counters, controller_entries, environment_entries}
use Rattle.theory.proofs.Entries.{controller_long, environment_long}
use Rattle.demands.proofs.Sizes.{controller_few, environment_few}

pub controller_length_lem : (g : Game) (m : ℕ) → m ≡ controller_counters (separated_of g)
    → g.input.states + g.output.states * m * g.input.states ≡ length (controller_entries (separated_of g))
unfolding separated_of graph_of
controller_length_lem g m e =
    ap (λ (n : ℕ). g.input.states + g.output.states * n * g.input.states) e ∙ sym (controller_long (separated_of g))

pub environment_length_lem : (g : Game) (m : ℕ) → m ≡ environment_counters (separated_of g)
    → 1 + g.input.states * m * g.output.states ≡ length (environment_entries (separated_of g))
unfolding separated_of graph_of
environment_length_lem g m e =
    ap (λ (n : ℕ). 1 + g.input.states * n * g.output.states) e ∙ sym (environment_long (separated_of g))

-- so every sum and product fits a word
module _ (g : Game) (a : acceptance g ≡ accepted) where
  pub inputs_most : g.input.states ≤ 128
  inputs_most = (accepted_fits g a).input.most

  pub outputs_most : g.output.states ≤ 128
  outputs_most = (accepted_fits g a).output.most

module _ (g : Game) (a : acceptance g ≡ accepted) (m : ℕ) where
  pub controller_most : m ≡ controller_counters (separated_of g) → m ≤ 32
  controller_most e = omega (arith, controller_few g (accepted_fits g a))

  environment_most : m ≡ environment_counters (separated_of g) → m ≤ 32
  environment_most e = omega (arith, environment_few g (accepted_fits g a))

  pub controller_rows : m ≡ controller_counters (separated_of g) → g.output.states * m ≤ 4096
  controller_rows e = mul-le-mul (outputs_most g a) (controller_most e)

  pub controller_entries_lem : m ≡ controller_counters (separated_of g) → g.output.states * m * g.input.states ≤ 524288
  controller_entries_lem e = mul-le-mul (controller_rows e) (inputs_most g a)

  pub environment_rows : m ≡ environment_counters (separated_of g) → g.input.states * m ≤ 4096
  environment_rows e = mul-le-mul (inputs_most g a) (environment_most e)

  pub environment_entries_lem : m ≡ environment_counters (separated_of g) → g.input.states * m * g.output.states ≤ 524288
  environment_entries_lem e = mul-le-mul (environment_rows e) (outputs_most g a)
