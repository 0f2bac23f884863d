-- Pushes, as one move into a set.
--
--   pushes_entering   : each input has such a move
--   pushes_written    : so the rows are written
use Prim.Native.Nat.{ℕ}
use mathlib.Core.Path.{◌≡◌}
use mathlib.Core.Bool.{true}
use mathlib.Core.List.{List}
use native.Mathlib.Omega.{arith}
use Rattle.bits.specs.Member.{has}
use Rattle.sets.specs.Words.{sets_in}
use Rattle.game.specs.declared.Game.{Game}
use Rattle.play.specs.Play.{separated_of}
use Rattle.theory.specs.Choice.{environment_row}
use Rattle.table_layout.specs.declared.Layout.{Layout}
use Rattle.table_walks.specs.Staying.{Entering, Enters}
use Rattle.environment_table.specs.Table.{entries_of, Roomy, EnvironmentLayout, EnvironmentFilled, Pushes}
use Rattle.environment_table.proofs.Laid.{laid_table, laid_filled}

module _ (g : Game) (M n : ℕ) (z : Layout) (R : Roomy g M n) (Z : EnvironmentLayout g.input.states M g.output.states z) (which o refused : ℕ)
    (P : Pushes g which o refused) where
  -- k are the rows that were read
  pub pushes_entering : {k : List ℕ} → k ≡ g.input.moves → Entering (sets_in k) z.states which refused
  pushes_entering q = rw q (record { below = λ s e. omega (arith, P.below s e, Z.states); move = P.move })

  written : {l m : List ℕ} → Enters (sets_in g.input.moves) z which refused o l m → EnvironmentFilled g (λ a h b. (has which a ≡ true) × (b ≡ o)) l m
  written E =
      laid_filled g M n z R Z
      (E.fills (environment_row (separated_of g)) (entries_of g) (laid_table g M n z R Z) (record { row = λ s h e lh. P.row s h e }))

  pub pushes_written : {k l m : List ℕ} → k ≡ g.input.moves → Enters (sets_in k) z which refused o l m
      → EnvironmentFilled g (λ a h b. (has which a ≡ true) × (b ≡ o)) l m
  pushes_written q E = written (rw q at E)
