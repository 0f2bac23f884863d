-- The controller's table in its layout.
--
--   outputs_are, counters_are : the sizes are the game's
--   laid_fits     : the buffer has the rows
--   width_is, laid_rows, laid_input : the sheet in the layout that is handed on
--   laid_filled   : rows that were written there were written in the table
use Prim.Native.Nat.{ℕ, ◌≤◌, ◌<◌}
use mathlib.Core.Path.{◌≡◌, sym, ◌∙◌, ap, subst}
use mathlib.Core.List.{List}
use native.Mathlib.Omega.{arith}
use Rattle.game.specs.declared.Game.{Game}
use Rattle.play.specs.Play.{separated_of}
use Rattle.theory.specs.Choice.{controller_row}
use Rattle.theory.specs.Entries.{controller_counters}
use Rattle.table_layout.specs.declared.Layout.{Layout}
use Rattle.table_layout.specs.Rows.{LayoutFits, Rows, Filled as FilledIn}
use Rattle.controller_rows.specs.declared.Size.{Size}
use Rattle.controller_rows.specs.Writes.{input_of, layout_of, length_of}
use Rattle.controller_rows.proofs.Writes.{rows_fit_lem}
use Rattle.controller_table.specs.Filled.{Sheet, Sized}
use Rattle.controller_table.proofs.Setting.{sizes_of_lem, table_of}

module _ (g : Game) (z : Size) (y : Layout) (Z : Sized g z) (D : y ≡ layout_of z) where
  pub outputs_are : y.states ≡ (separated_of g).output.states
  unfolding layout_of
  outputs_are = ap (λ (x : Layout). x.states) D ∙ (sizes_of_lem g z Z).outputs

  pub counters_are : y.counters ≡ controller_counters (separated_of g)
  unfolding layout_of
  counters_are = ap (λ (x : Layout). x.counters) D ∙ Z.counters

  pub width_is : y.width ≡ z.width
  unfolding layout_of
  width_is = ap (λ (x : Layout). x.width) D

  pub laid_fits : (n : ℕ) → length_of z ≤ n → LayoutFits y n
  laid_fits n long = rows_fit_lem z n (table_of g z Z n long) D

  module _ (E : List ℕ) where
    pub laid_rows : Sheet (separated_of g) (layout_of z) (input_of z) E → Rows y (λ o c b. controller_row (separated_of g) o c (input_of z b)) E
    laid_rows T = subst (λ (x : Layout). Rows x (λ o c b. controller_row (separated_of g) o c (input_of z b)) E) (sym D) T.rows

    pub laid_input : Sheet (separated_of g) (layout_of z) (input_of z) E → (b : ℕ) → b < y.width → input_of z b < (separated_of g).input.states
    unfolding layout_of
    laid_input T b l = T.inputs b (omega (arith, width_is))

    pub laid_filled : {P : ℕ → ℕ → ℕ → Type 0} {l m : List ℕ} → FilledIn y E P l m → FilledIn (layout_of z) E P l m
    laid_filled {P} {l} {m} F = subst (λ (x : Layout). FilledIn x E P l m) D F
