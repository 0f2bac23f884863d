-- Rows agree inside an input component.
use Prim.Native.Nat.{ℕ, ◌<◌}
use mathlib.Core.Path.{◌≡◌, ◌∙◌, ap, ap₂}
use mathlib.Core.Bool.{Bool, true, false, ◌&&◌}
use Rattle.finite.specs.Bounded.{least}
use Rattle.finite.proofs.Bounded.{any_same, least_same}
use Rattle.graphs.specs.Graph.{edge}
use Rattle.graphs.specs.Component.{joined, nontrivial}
use Rattle.graphs.proofs.Component.{joined_self, nontrivial_same}
use Rattle.arena.specs.Arena.{Separated}
use Rattle.arena.specs.Table.{Answer, none, gives}
use Rattle.theory.specs.Region.{answers, region}
use Rattle.theory.specs.Choice.{home, homeward, settled, controller_row}
use Rattle.theory.proofs.Delay.{region_same}
use Rattle.theory.proofs.ControllerRow.{home_same}

module _ (S : Separated) (j k : ℕ) (e : joined S.input j k ≡ true) where
  replies_won : ℕ → ℕ → ℕ → Bool
  replies_won o i p = edge S.output o p && region S i p

  won_agree : (o p : ℕ) → p < S.output.states → replies_won o j p ≡ replies_won o k p
  unfolding replies_won
  won_agree o p b = ap (λ (x : Bool). edge S.output o p && x) (region_same S j k p p e (joined_self S.output p b))

  answers_agree : (o : ℕ) → answers S (region S) j o ≡ answers S (region S) k o
  unfolding answers replies_won
  answers_agree o = any_same S.output.states (replies_won o j) (replies_won o k) (won_agree o)

  least_agree : (o : ℕ) → least S.output.states (replies_won o j) ≡ least S.output.states (replies_won o k)
  least_agree o = least_same S.output.states (replies_won o j) (replies_won o k) (won_agree o)

  settled_agree : (o g : ℕ) → o < S.output.states → settled S o g j ≡ settled S o g k
  unfolding settled replies_won
  settled_agree o g b =
      ap (λ (x : Bool). elim x as (λ y. Answer) [ true ↦ homeward S (home S j o) o g | false ↦ gives g (least S.output.states (replies_won o j)) ])
      (nontrivial_same S.input j k e)
      ∙ ap₂ (λ (d p : ℕ). elim (nontrivial S.input k) as (λ y. Answer) [ true ↦ homeward S d o g | false ↦ gives g p ])
      (home_same S j k o o e (joined_self S.output o b)) (least_agree o)

  pub rows_agree : (o g : ℕ) → o < S.output.states → controller_row S o g j ≡ controller_row S o g k
  unfolding controller_row
  rows_agree o g b =
      ap₂ (λ (x : Bool) (r : Answer). elim x as (λ y. Answer) [ true ↦ r | false ↦ none ]) (answers_agree o) (settled_agree o g b)
