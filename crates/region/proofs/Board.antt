-- What is told of the game on a board, told of the game that was laid out on it.
--
--   fits_on, scratch_on    : what the region asks of a game it asks of the board's
--   prepared_on            : scratch with the region of the board's game has that of the game
use Prim.Native.Nat.{ℕ, ◌≤◌}
use mathlib.Core.Path.{◌≡◌, sym, subst}
use mathlib.Core.List.{List}
use Rattle.game.specs.declared.Game.{Game}
use Rattle.game.specs.Fits.{Fits}
use Rattle.scratch.specs.declared.Nontrivial.{Nontrivial}
use Rattle.scratch.specs.Scratch.{scratch_length}
use Rattle.region.specs.Fill.{Prepared}

module _ {g h : Game} (e : h ≡ g) where
  pub fits_on : Fits g → Fits h
  fits_on = subst Fits (sym e)

  pub scratch_on : {n : ℕ} → scratch_length g ≤ n → scratch_length h ≤ n
  scratch_on {n} = subst (λ (x : Game). scratch_length x ≤ n) (sym e)

  pub prepared_on : {s t : List ℕ} {x : Nontrivial} → Prepared h s t x → Prepared g s t x
  prepared_on {s} {t} {x} = subst (λ (y : Game). Prepared y s t x) e
