-- `row_entry` computes the row's place, which fits a word where the game has the position.
use native.Mathlib.Omega.{arith}
use Rattle.panel_player.proofs.Answers.{bounds, row_read}
use Rattle.panel_player.proofs.row_entry.Goals as goal

pub overflow_mul-i : goal.overflow_mul-i
overflow_mul-i c = omega (arith, bounds _ _ _ c.requires.0 c.requires.1 c.requires.2)

pub overflow_add-i : goal.overflow_add-i
overflow_add-i c = omega (arith, bounds _ _ _ c.requires.0 c.requires.1 c.requires.2)

pub overflow_mul-i-2 : goal.overflow_mul-i-2
overflow_mul-i-2 c = omega (arith, bounds _ _ _ c.requires.0 c.requires.1 c.requires.2)

pub overflow_add-i-2 : goal.overflow_add-i-2
overflow_add-i-2 c = omega (arith, bounds _ _ _ c.requires.0 c.requires.1 c.requires.2)

pub overflow_add-i-3 : goal.overflow_add-i-3
overflow_add-i-3 c = omega (arith, bounds _ _ _ c.requires.0 c.requires.1 c.requires.2)

pub returns : goal.returns
returns c = row_read _ _ _ _ _ c.requires.1 c.entry.ensures
