-- The length of the controller's table by component: "inputs + inputs + outputs × max(1, G) × components entries".
use Prim.Native.Nat.{ℕ, ◌+◌, ◌*◌, ◌≤◌}
use native.Mathlib.Nat.{mul-le-mul}
use mathlib.Core.Path.{◌≡◌, ap₂}
use native.Mathlib.Omega.{arith}
use Rattle.game.specs.declared.Game.{Game}
use Rattle.game.specs.Acceptance.{accepted, acceptance}
use Rattle.game.proofs.Laws.{accepted_fits}
use Rattle.play.specs.Play.{graph_of, separated_of}
use Rattle.theory.specs.Entries.{controller_counters}
use Rattle.compact.specs.Rank.{component_count}
use Rattle.compact.specs.Compact.{compact_length}
use Rattle.compact.proofs.Rank.{components_le}
use Rattle.table_sizes.proofs.Lengths.{controller_rows}

module _ (g : Game) (m k : ℕ) (e : m ≡ controller_counters (separated_of g)) (f : k ≡ component_count (separated_of g)) where
  pub length_is : g.input.states + (g.input.states + g.output.states * m * k) ≡ compact_length (separated_of g)
  unfolding compact_length separated_of graph_of
  length_is = ap₂ (λ (x y : ℕ). g.input.states + (g.input.states + g.output.states * x * y)) e f

  components_most : acceptance g ≡ accepted → k ≤ 128
  unfolding separated_of graph_of
  components_most a = omega (arith, f, components_le (separated_of g), (accepted_fits g a).input.most)

  pub rows_most : acceptance g ≡ accepted → g.output.states * m * k ≤ 524288
  rows_most a = mul-le-mul (controller_rows g a m e) (components_most a)
